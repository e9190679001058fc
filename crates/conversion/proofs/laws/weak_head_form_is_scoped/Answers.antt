use Rattle.conversion.proofs.ScopedForms.{whnf_is_scoped}
use Rattle.conversion.proofs.laws.weak_head_form_is_scoped.Goals as goal

pub returns : goal.returns
returns c = whnf_is_scoped
