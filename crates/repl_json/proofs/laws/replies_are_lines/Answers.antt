use Rattle.repl_json.proofs.OneLineLemmas.{reply_line}
use Rattle.repl_json.proofs.laws.replies_are_lines.Goals as goal

pub returns : goal.returns
returns c = reply_line
