use Rattle.std.proofs.Common.{◌≡◌}
use Rattle.ld_trees.specs.Term.{nodes}
use Rattle.conversion.specs.Conversion.{is_defined_at_head}
use Rattle.conversion.specs.Globals.{env_of}
use Rattle.pattern_unify.proofs.pairs.is_defined.Given as goal

abbrev pub invariant-loop-f : goal.invariant-loop-f
invariant-loop-f g l =
    g.T.Terms.holds l.terms l.head
    × (is_defined_at_head (env_of (g.T.Terms.means l.terms) (g.G.Globals.items l.globals) (g.G.Globals.metas l.globals)) (g.T.Terms.means l.terms l.head)
    ≡ is_defined_at_head (env_of (g.T.Terms.means l.terms) (g.G.Globals.items l.globals) (g.G.Globals.metas l.globals)) (g.T.Terms.means l.terms l.fn.h))

abbrev pub decreases-loop-f : goal.decreases-loop-f
decreases-loop-f g l = nodes (g.T.Terms.means l.terms l.head)
