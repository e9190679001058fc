use Rattle.ld_rules.proofs.RemovalOfLast.{removal_of_last}
use Rattle.ld_rules.proofs.last_definition_is_removed.Goals as goal

pub returns : goal.returns
returns c = removal_of_last
