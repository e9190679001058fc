use Rattle.repl_json.proofs.OneLineLemmas.{memory_text}
use Rattle.repl_json.proofs.laws.memory_is_memory_line.Goals as goal

pub returns : goal.returns
returns c = memory_text
