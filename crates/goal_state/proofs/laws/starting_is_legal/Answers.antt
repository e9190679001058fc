use Rattle.goal_state.proofs.Starts.{starting_is_legal}
use Rattle.goal_state.proofs.laws.starting_is_legal.Goals as goal

pub returns : goal.returns
returns c = starting_is_legal
