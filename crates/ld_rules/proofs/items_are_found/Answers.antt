use Rattle.ld_rules.proofs.Lookup.{items_are_found}
use Rattle.ld_rules.proofs.items_are_found.Goals as goal

pub returns : goal.returns
returns c = items_are_found
