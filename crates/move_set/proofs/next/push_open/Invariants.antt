use Rattle.std.proofs.Common.{◌≡◌, ◌++◌, filter, take}
use Rattle.goal_state.specs.State.{is_open}
use Rattle.move_set.proofs.next.push_open.Given as goal

abbrev pub invariant-loop-number : goal.invariant-loop-number
invariant-loop-number g l = l.goals.items ≡ l.fn.goals.items ++ filter (is_open l.metas) (take l.number-index l.numbers)
