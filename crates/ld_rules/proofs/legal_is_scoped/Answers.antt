use Rattle.ld_rules.proofs.ScopedItems.{legal_is_scoped}
use Rattle.ld_rules.proofs.legal_is_scoped.Goals as goal

pub returns : goal.returns
returns c = legal_is_scoped
