use Rattle.repl_json.proofs.OneLineLemmas.{only_memory}
use Rattle.repl_json.proofs.laws.only_memory_is_memory_line.Goals as goal

pub returns : goal.returns
returns c = only_memory
