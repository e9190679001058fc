use Rattle.std.proofs.Common.{◌≡◌, ◌≤◌, All, ◌+◌, ◌*◌, vec_len}
use Rattle.ld_terms.specs.Views.{Keeps}
use Rattle.conversion.specs.Conversion.{conv, convert_each}
use Rattle.conversion.specs.Globals.{env_of}
use Rattle.conversion.specs.Spines.{BothHeld, pairs_back}
use Rattle.conversion.proofs.converting.+converting.Given as goal

abbrev pub decreases-conv : goal.decreases-conv
decreases-conv g l = 4 * l.fuel.now

abbrev pub decreases-conv_twins : goal.decreases-conv_twins
decreases-conv_twins g l = 4 * l.fuel.now + 3

abbrev pub decreases-conv_forms : goal.decreases-conv_forms
decreases-conv_forms g l = 4 * l.fuel.now + 3

abbrev pub decreases-conv_parts : goal.decreases-conv_parts
decreases-conv_parts g l = 4 * l.fuel.now + 2

abbrev pub decreases-conv_each : goal.decreases-conv_each
decreases-conv_each g l = 4 * l.fuel.now + 1

abbrev pub invariant-conv_each-loop-pair : goal.invariant-conv_each-loop-pair
invariant-conv_each-loop-pair g l =
    let c = conv (env_of (g.T.Terms.means l.fn.terms) (g.G.Globals.items l.globals) (g.G.Globals.metas l.globals)) in
    (convert_each c (pairs_back (g.T.Terms.means l.fn.terms) l.fn.pairs.items) l.fn.fuel ≡ convert_each c (pairs_back (g.T.Terms.means l.fn.terms) l.pairs.items) l.fuel)
    × (l.fuel ≤ l.fn.fuel)
    × All (BothHeld (g.T.Terms.holds l.fn.terms)) l.pairs.items
    × Keeps (g.T.Terms.holds l.fn.terms) (g.T.Terms.means l.fn.terms) (g.T.Terms.holds l.terms) (g.T.Terms.means l.terms)

abbrev pub decreases-conv_each-loop-pair : goal.decreases-conv_each-loop-pair
decreases-conv_each-loop-pair g l = vec_len l.pairs
