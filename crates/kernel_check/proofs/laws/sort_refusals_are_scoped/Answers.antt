use Rattle.kernel_check.proofs.ScopedAnswers.{sort_refusals_are_scoped}
use Rattle.kernel_check.proofs.laws.sort_refusals_are_scoped.Goals as goal

pub returns : goal.returns
returns c = sort_refusals_are_scoped
