use Rattle.ld_rules.proofs.Congruence.{equality_is_congruence}
use Rattle.ld_rules.proofs.equality_is_congruence.Goals as goal

pub returns : goal.returns
returns c = equality_is_congruence
