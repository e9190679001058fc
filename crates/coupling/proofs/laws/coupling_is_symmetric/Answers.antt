use Rattle.coupling.proofs.Coupling.{coupling_is_symmetric}
use Rattle.coupling.proofs.laws.coupling_is_symmetric.Goals as goal

pub returns : goal.returns
returns c = coupling_is_symmetric
