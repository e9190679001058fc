use Rattle.meta_laws.proofs.Settling.{settling_keeps_legality}
use Rattle.meta_laws.proofs.settling_keeps_legality.Goals as goal

pub returns : goal.returns
returns c = settling_keeps_legality
