use Rattle.std.proofs.Common.{◌≡◌, ◌&&◌, not, nat_le}
use Rattle.meta_trees.specs.Dependencies.{below}
use Rattle.meta_laws.specs.Cut.{listed}
use Rattle.goal_state.specs.State.{is_open}
use Rattle.move_set.proofs.next.unlisted.Given as goal

abbrev pub invariant-loop-m : goal.invariant-loop-m
invariant-loop-m g l = l.numbers.items ≡ below (λ m. nat_le l.first m && is_open l.metas m && not (listed m l.goals)) l.m
