use Rattle.ld_rules.proofs.Environments.{items_have_types}
use Rattle.ld_rules.proofs.items_have_types.Goals as goal

pub returns : goal.returns
returns c = items_have_types
