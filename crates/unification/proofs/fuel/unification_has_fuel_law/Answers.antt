use Rattle.unification.proofs.FuelLaws.{unify_has_fuel_law}
use Rattle.unification.proofs.fuel.unification_has_fuel_law.Goals as goal

pub returns : goal.returns
returns c = unify_has_fuel_law
