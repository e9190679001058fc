use Rattle.std.proofs.Common.{◌+◌, ◌*◌, vec_len}
use Rattle.pattern_unify.proofs.Turns.{IsUnifiedSoFar}
use Rattle.pattern_unify.proofs.+unifying.Given as goal

abbrev pub decreases-engine::unify_in : goal.decreases-engine::unify_in
decreases-engine::unify_in g l = 9 * l.fuel.now

abbrev pub decreases-engine::unify_each : goal.decreases-engine::unify_each
decreases-engine::unify_each g l = 9 * l.fuel.now + 1

abbrev pub decreases-solving::settle_in : goal.decreases-solving::settle_in
decreases-solving::settle_in g l = 9 * l.fuel.now + 1

abbrev pub decreases-solving::solve_outright : goal.decreases-solving::solve_outright
decreases-solving::solve_outright g l = 9 * l.fuel.now + 2

abbrev pub decreases-solving::prune : goal.decreases-solving::prune
decreases-solving::prune g l = 9 * l.fuel.now + 2

abbrev pub decreases-solving::solve_pruned : goal.decreases-solving::solve_pruned
decreases-solving::solve_pruned g l = 9 * l.fuel.now + 3

abbrev pub decreases-solving::solve : goal.decreases-solving::solve
decreases-solving::solve g l = 9 * l.fuel.now + 4

abbrev pub decreases-engine::unify_parts : goal.decreases-engine::unify_parts
decreases-engine::unify_parts g l = 9 * l.fuel.now + 2

abbrev pub decreases-engine::unify_twins : goal.decreases-engine::unify_twins
decreases-engine::unify_twins g l = 9 * l.fuel.now + 2

abbrev pub decreases-engine::unify_planned : goal.decreases-engine::unify_planned
decreases-engine::unify_planned g l = 9 * l.fuel.now + 5

abbrev pub decreases-engine::unify_forms : goal.decreases-engine::unify_forms
decreases-engine::unify_forms g l = 9 * l.fuel.now + 6

abbrev pub decreases-engine::unify_reduced : goal.decreases-engine::unify_reduced
decreases-engine::unify_reduced g l = 9 * l.fuel.now + 7

abbrev pub invariant-engine::unify_each-loop-pair : goal.invariant-engine::unify_each-loop-pair
invariant-engine::unify_each-loop-pair g l =
    IsUnifiedSoFar (g.T.Terms.holds l.fn.terms) (g.T.Terms.means l.fn.terms) (g.T.Terms.holds l.terms) (g.T.Terms.means l.terms)
    l.env l.metas l.after l.fn.pairs.items l.pairs.items l.fn.fuel l.fuel

abbrev pub decreases-engine::unify_each-loop-pair : goal.decreases-engine::unify_each-loop-pair
decreases-engine::unify_each-loop-pair g l = vec_len l.pairs
