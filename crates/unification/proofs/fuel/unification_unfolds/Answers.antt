use Rattle.unification.proofs.FuelLaws.{unify_is}
use Rattle.unification.proofs.fuel.unification_unfolds.Goals as goal

pub returns : goal.returns
returns c = unify_is
