use Rattle.std.proofs.Common.{refl}
use Rattle.std.specs.Fmt.{digits}
use Rattle.repl_json.specs.Bad.{bad_body}
use Rattle.repl_json.specs.Reply.{text}
use Rattle.state_tree.specs.Server.{answer}
use Rattle.session_server.proofs.worked_rows.output_computes.Goals as goal

pub returns : goal.returns
unfolding answer text bad_body digits
returns c = refl
