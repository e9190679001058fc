use Rattle.state_print.proofs.Lines.{shown_states_are_replies}
use Rattle.state_print.proofs.laws.shown_states_are_replies.Goals as goal

pub returns : goal.returns
returns c = shown_states_are_replies
