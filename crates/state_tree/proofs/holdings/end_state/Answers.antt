use Rattle.std.proofs.Common.{sym, arith}
use Rattle.state_tree.proofs.Slots.{set_ended, set_same, without_past}
use Rattle.state_tree.proofs.holdings.end_state.Goals as goal

pub returns-then-id-len-clause-states : goal.returns-then-id-len-clause-states
returns-then-id-len-clause-states g c = sym (without_past c.args.holdings.now.states.items c.args.id (omega arith))

pub returns-then-slot-clause-states : goal.returns-then-slot-clause-states
returns-then-slot-clause-states g c =
    set_ended c.args.holdings.now.states.items c.args.id c.index_mut-slot.result.now (omega arith) c.index_mut-slot.ensures.value

pub returns-else-slot-clause-states : goal.returns-else-slot-clause-states
returns-else-slot-clause-states g c =
    set_same c.args.holdings.now.states.items c.args.id c.index_mut-slot.result.now (omega arith) c.index_mut-slot.ensures.value c.if-slot.false
