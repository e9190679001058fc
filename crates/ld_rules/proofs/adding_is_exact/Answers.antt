use Rattle.ld_rules.proofs.Environments.{adding_is_exact}
use Rattle.ld_rules.proofs.adding_is_exact.Goals as goal

pub returns : goal.returns
returns c = adding_is_exact
