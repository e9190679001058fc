use Rattle.std.proofs.Common.{◌≡◌, []}
use Rattle.meta_trees.specs.Dependencies.{below}
use Rattle.goal_state.specs.State.{is_open}
use Rattle.goal_state.proofs.goals.are_assigned.Given as goal

abbrev pub invariant-loop-m : goal.invariant-loop-m
invariant-loop-m g l = below (is_open l.metas) l.m ≡ []
