use Rattle.repl_json.proofs.OneLineLemmas.{bad_is_reply}
use Rattle.repl_json.proofs.laws.bad_bodies_are_replies.Goals as goal

pub returns : goal.returns
returns c = bad_is_reply
