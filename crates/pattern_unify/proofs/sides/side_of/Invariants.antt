use Rattle.std.proofs.Common.{◌≡◌}
use Rattle.ld_trees.specs.Term.{nodes}
use Rattle.goal_state.specs.State.{plain_metas}
use Rattle.unification.specs.Patterns.{side}
use Rattle.pattern_unify.specs.Walks.{applied_if}
use Rattle.pattern_unify.proofs.sides.side_of.Given as goal

abbrev pub invariant-loop-f : goal.invariant-loop-f
invariant-loop-f g l =
    let metas = plain_metas (g.T.Terms.means l.terms) l.metas in
    g.T.Terms.holds l.terms l.head
    × (applied_if l.applied (side metas (g.T.Terms.means l.terms l.head)) ≡ side metas (g.T.Terms.means l.terms l.fn.h))

abbrev pub decreases-loop-f : goal.decreases-loop-f
decreases-loop-f g l = nodes (g.T.Terms.means l.terms l.head)
