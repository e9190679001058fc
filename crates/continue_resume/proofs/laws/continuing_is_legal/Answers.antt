use Rattle.continue_resume.proofs.Legal.{continuing_is_legal}
use Rattle.continue_resume.proofs.laws.continuing_is_legal.Goals as goal

pub returns : goal.returns
returns c = continuing_is_legal
