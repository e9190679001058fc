use Rattle.elaboration.proofs.Fuel.{elaboration_has_fuel_law}
use Rattle.elaboration.proofs.laws.elaboration_has_fuel_law.Goals as goal

pub returns : goal.returns
returns c = elaboration_has_fuel_law
