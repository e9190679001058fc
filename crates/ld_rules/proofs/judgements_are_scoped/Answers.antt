use Rattle.ld_rules.proofs.KnownConstants.{judgements_are_scoped}
use Rattle.ld_rules.proofs.judgements_are_scoped.Goals as goal

pub returns : goal.returns
returns c = judgements_are_scoped
