use Rattle.std.proofs.Common.{◌≡◌, filter, take}
use Rattle.goal_state.specs.StoredState.{plain_state}
use Rattle.continue_resume.specs.Continuing.{is_shared}
use Rattle.continue_resume.proofs.continuing.shared_goals.Given as goal

abbrev pub invariant-loop-m : goal.invariant-loop-m
invariant-loop-m g l = l.goals.items ≡ filter (is_shared (plain_state g.T.Terms.means l.target).metas (plain_state g.T.Terms.means l.branch).metas) (take l.m-index l.branch.goals)
