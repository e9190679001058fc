use Rattle.std.proofs.Common.{◌≡◌}
use Rattle.state_tree.proofs.Slots.{part_ended}
use Rattle.state_tree.proofs.holdings.end_slots.Given as goal

abbrev pub invariant-loop-slot : goal.invariant-loop-slot
invariant-loop-slot g l = l.slot-items ≡ part_ended l.fn.states.items l.slot-index
