use Rattle.kernel_check.proofs.FuelLaw.{sort_has_fuel_law}
use Rattle.kernel_check.proofs.laws.sort_has_fuel_law.Goals as goal

pub returns : goal.returns
returns c = sort_has_fuel_law
