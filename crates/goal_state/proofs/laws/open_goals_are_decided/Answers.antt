use Rattle.goal_state.proofs.Means.{open_is}
use Rattle.goal_state.proofs.laws.open_goals_are_decided.Goals as goal

pub returns : goal.returns
returns g c = open_is
