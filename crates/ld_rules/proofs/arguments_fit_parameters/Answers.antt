use Rattle.ld_rules.proofs.Entries.{arguments_fit}
use Rattle.ld_rules.proofs.arguments_fit_parameters.Goals as goal

pub returns : goal.returns
returns c = arguments_fit
