use Rattle.coupling.proofs.Coupling.{coupling_is_decided}
use Rattle.coupling.proofs.laws.coupling_is_decided.Goals as goal

pub returns : goal.returns
returns c = coupling_is_decided
