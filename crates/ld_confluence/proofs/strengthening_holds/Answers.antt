use Rattle.ld_confluence.proofs.Strengthening.{strengthening_holds}
use Rattle.ld_confluence.proofs.strengthening_holds.Goals as goal

pub returns : goal.returns
returns c = strengthening_holds
