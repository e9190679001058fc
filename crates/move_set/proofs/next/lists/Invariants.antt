use Rattle.std.proofs.Common.{◌≡◌, drop}
use Rattle.meta_laws.specs.Cut.{listed}
use Rattle.move_set.proofs.next.lists.Given as goal

abbrev pub invariant-loop-goal : goal.invariant-loop-goal
invariant-loop-goal l = listed l.m l.goals ≡ listed l.m (drop l.goal-index l.goals)
