use Rattle.continue_resume.proofs.Legal.{resuming_is_legal}
use Rattle.continue_resume.proofs.laws.resuming_is_legal.Goals as goal

pub returns : goal.returns
returns c = resuming_is_legal
