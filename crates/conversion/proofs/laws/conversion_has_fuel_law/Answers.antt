use Rattle.conversion.proofs.Levels.{conv_has_fuel_law}
use Rattle.conversion.proofs.laws.conversion_has_fuel_law.Goals as goal

pub returns : goal.returns
returns c = conv_has_fuel_law
