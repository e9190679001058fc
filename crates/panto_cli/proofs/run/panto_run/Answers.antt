use Rattle.panto_cli.proofs.Endings.{usage_of, refused_of}
use Rattle.panto_cli.proofs.run.panto_run.Goals as goal

pub returns-clause-usage : goal.returns-clause-usage
returns-clause-usage g c = rw c.status.ensures (usage_of _ _ _ _ _ _ _ c.run_words-outcome.ensures.ends.leaves)

pub returns-clause-refused : goal.returns-clause-refused
returns-clause-refused g c = rw c.status.ensures (refused_of _ _ _ _ _ _ _ c.run_words-outcome.ensures.ends.leaves)
