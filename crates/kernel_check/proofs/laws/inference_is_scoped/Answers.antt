use Rattle.kernel_check.proofs.ScopedAnswers.{inference_is_scoped}
use Rattle.kernel_check.proofs.laws.inference_is_scoped.Goals as goal

pub returns : goal.returns
returns c = inference_is_scoped
