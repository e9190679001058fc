use Rattle.ld_rules.proofs.Environments.{judgements_are_legal}
use Rattle.ld_rules.proofs.judgements_are_legal.Goals as goal

pub returns : goal.returns
returns c = judgements_are_legal
