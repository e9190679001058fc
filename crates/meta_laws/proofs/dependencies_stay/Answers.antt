use Rattle.meta_laws.proofs.Footprint.{dependencies_stay}
use Rattle.meta_laws.proofs.dependencies_stay.Goals as goal

pub returns : goal.returns
returns c = dependencies_stay
