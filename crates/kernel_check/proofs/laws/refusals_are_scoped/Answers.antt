use Rattle.kernel_check.proofs.ScopedAnswers.{refusals_are_scoped}
use Rattle.kernel_check.proofs.laws.refusals_are_scoped.Goals as goal

pub returns : goal.returns
returns c = refusals_are_scoped
