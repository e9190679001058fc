use Rattle.ld_rules.proofs.Lookup.{names_are_new}
use Rattle.ld_rules.proofs.names_are_new.Goals as goal

pub returns : goal.returns
returns c = names_are_new
