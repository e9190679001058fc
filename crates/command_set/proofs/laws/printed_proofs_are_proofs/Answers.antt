use Rattle.command_set.proofs.Proved.{printed_proofs_are_proofs}
use Rattle.command_set.proofs.laws.printed_proofs_are_proofs.Goals as goal

pub returns : goal.returns
returns c = printed_proofs_are_proofs
