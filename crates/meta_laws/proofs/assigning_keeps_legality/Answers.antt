use Rattle.meta_laws.proofs.Assigning.{assigning_keeps_legality}
use Rattle.meta_laws.proofs.assigning_keeps_legality.Goals as goal

pub returns : goal.returns
returns c = assigning_keeps_legality
