use Rattle.kernel_check.proofs.FuelLaw.{inference_has_fuel_law}
use Rattle.kernel_check.proofs.laws.inference_has_fuel_law.Goals as goal

pub returns : goal.returns
returns c = inference_has_fuel_law
