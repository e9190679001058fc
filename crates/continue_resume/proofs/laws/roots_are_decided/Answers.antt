use Rattle.continue_resume.proofs.Deciding.{roots_are_decided}
use Rattle.continue_resume.proofs.laws.roots_are_decided.Goals as goal

pub returns : goal.returns
returns c = roots_are_decided
