use Rattle.std.proofs.Common.{◌≡◌, ◌≤◌}
use Rattle.elaborate.specs.Steps.{cost, paid}
use Rattle.elaborate.proofs.leaves.pay.Given as goal

abbrev pub invariant-loop-left : goal.invariant-loop-left
invariant-loop-left l = record {
  less : l.fuel ≤ l.fn.fuel;
  same : paid (cost l.t) l.fn.fuel ≡ paid l.left l.fuel;
}

abbrev pub decreases-loop-left : goal.decreases-loop-left
decreases-loop-left l = l.left
