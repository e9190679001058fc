use Rattle.std.proofs.Common.{◌≡◌, All, map, vec_len}
use Rattle.ld_terms.specs.Views.{Keeps}
use Rattle.conversion.specs.Spines.{applied}
use Rattle.conversion.proofs.steps.apply_all.Given as goal

abbrev pub invariant-loop-arg : goal.invariant-loop-arg
invariant-loop-arg g l =
    (applied (g.T.Terms.means l.terms l.term) (map (g.T.Terms.means l.terms) l.args.items) ≡ applied (g.T.Terms.means l.fn.terms l.fn.head) (map (g.T.Terms.means l.fn.terms) l.fn.args.items))
    × g.T.Terms.holds l.terms l.term
    × All (g.T.Terms.holds l.terms) l.args.items
    × Keeps (g.T.Terms.holds l.fn.terms) (g.T.Terms.means l.fn.terms) (g.T.Terms.holds l.terms) (g.T.Terms.means l.terms)

abbrev pub decreases-loop-arg : goal.decreases-loop-arg
decreases-loop-arg g l = vec_len l.args
