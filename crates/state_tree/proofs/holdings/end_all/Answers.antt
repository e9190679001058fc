use Rattle.std.proofs.Common.{◌∙◌, ap, sym}
use Rattle.state_tree.specs.Server.{live_count}
use Rattle.state_tree.proofs.Slots.{live-ended}
use Rattle.state_tree.proofs.holdings.end_all.Goals as goal

pub returns-clause-counted : goal.returns-clause-counted
returns-clause-counted g c = sym (ap live_count c.end_slots.ensures.items ∙ live-ended c.args.holdings.now.states.items)
