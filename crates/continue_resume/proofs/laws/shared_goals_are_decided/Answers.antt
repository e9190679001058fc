use Rattle.continue_resume.proofs.Deciding.{shared_goals_are_decided}
use Rattle.continue_resume.proofs.laws.shared_goals_are_decided.Goals as goal

pub returns : goal.returns
returns c = shared_goals_are_decided
