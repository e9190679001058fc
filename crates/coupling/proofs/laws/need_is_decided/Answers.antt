use Rattle.coupling.proofs.Coupling.{need_is_decided}
use Rattle.coupling.proofs.laws.need_is_decided.Goals as goal

pub returns : goal.returns
returns c = need_is_decided
