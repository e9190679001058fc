use Rattle.std.proofs.Common.{◌≡◌}
use Rattle.meta_trees.specs.Dependencies.{below}
use Rattle.goal_state.specs.State.{is_open}
use Rattle.goal_state.proofs.goals.open_numbers.Given as goal

abbrev pub invariant-loop-m : goal.invariant-loop-m
invariant-loop-m g l = l.numbers.items ≡ below (is_open l.metas) l.m
