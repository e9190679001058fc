use Rattle.panto_cli.proofs.Endings.{words_unread}
use Rattle.panto_cli.proofs.run.run_words.Goals as goal

pub returns-in-Err-clause-ends : goal.returns-in-Err-clause-ends
returns-in-Err-clause-ends g c = words_unread _ _ _ _ _ _ _
