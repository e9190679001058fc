use Rattle.conversion.proofs.Heads.{whnf_has_fuel_law}
use Rattle.conversion.proofs.laws.weak_head_form_has_fuel_law.Goals as goal

pub returns : goal.returns
returns c = whnf_has_fuel_law
