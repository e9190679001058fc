use Rattle.std.proofs.Common.{arith}
use Rattle.state_tree.proofs.Slots.{end_more}
use Rattle.state_tree.proofs.holdings.end_slots.Goals as goal

pub loop-slot-preserved : goal.loop-slot-preserved
loop-slot-preserved g c = end_more _ _ c.loop-slot.slot-index c.slot-item.result c.loop-slot.invariant (omega (arith, c.loop-slot.auto.slot-items, c.loop-slot-test.true))
