use Rattle.std.proofs.Common.{◌≡◌, All, map}
use Rattle.ld_trees.specs.Term.{nodes}
use Rattle.conversion.specs.Spines.{applied}
use Rattle.conversion.proofs.steps.go_to_head.Given as goal

abbrev pub invariant-loop-f : goal.invariant-loop-f
invariant-loop-f g l =
    (applied (g.T.Terms.means l.terms l.head) (map (g.T.Terms.means l.terms) l.waiting.items) ≡ applied (g.T.Terms.means l.terms l.fn.h) (map (g.T.Terms.means l.terms) l.fn.waiting.items))
    × g.T.Terms.holds l.terms l.head
    × All (g.T.Terms.holds l.terms) l.waiting.items

abbrev pub decreases-loop-f : goal.decreases-loop-f
decreases-loop-f g l = nodes (g.T.Terms.means l.terms l.head)
