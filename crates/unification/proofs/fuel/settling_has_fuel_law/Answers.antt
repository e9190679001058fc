use Rattle.unification.proofs.FuelLaws.{settle_has_fuel_law}
use Rattle.unification.proofs.fuel.settling_has_fuel_law.Goals as goal

pub returns : goal.returns
returns c = settle_has_fuel_law
