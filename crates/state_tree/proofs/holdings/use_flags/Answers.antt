use Rattle.std.proofs.Common.{◌∙◌, ap, length}
use Rattle.state_tree.proofs.Slots.{length-without}
use Rattle.state_tree.proofs.holdings.use_flags.Goals as goal

pub returns-in-Delete-clause-states : goal.returns-in-Delete-clause-states
returns-in-Delete-clause-states g c = ap length c.end_state.ensures.states ∙ length-without c.args.holdings.now.states.items c.in-Delete.state
