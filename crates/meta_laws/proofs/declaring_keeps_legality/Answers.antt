use Rattle.meta_laws.proofs.Declaring.{declaring_keeps_legality}
use Rattle.meta_laws.proofs.declaring_keeps_legality.Goals as goal

pub returns : goal.returns
returns c = declaring_keeps_legality
