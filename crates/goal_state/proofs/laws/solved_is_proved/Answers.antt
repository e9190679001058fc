use Rattle.goal_state.proofs.Rooted.{solved_is_proved}
use Rattle.goal_state.proofs.laws.solved_is_proved.Goals as goal

pub returns : goal.returns
returns c = solved_is_proved
