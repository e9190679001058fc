use Rattle.unification.proofs.FuelLaws.{solving_is}
use Rattle.unification.proofs.fuel.solving_unfolds.Goals as goal

pub returns : goal.returns
returns c = solving_is
