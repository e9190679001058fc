use Rattle.move_set.proofs.Fuel.{moves_have_fuel_law, applying_unfolds}
use Rattle.move_set.proofs.laws.moves_have_fuel_law.Goals as goal

pub returns-clause-fuel : goal.returns-clause-fuel
returns-clause-fuel c = moves_have_fuel_law

pub returns-clause-unfolds : goal.returns-clause-unfolds
returns-clause-unfolds c = applying_unfolds
