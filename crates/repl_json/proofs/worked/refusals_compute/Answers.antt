use Rattle.std.proofs.Common.{refl}
use Rattle.std.specs.Fmt.{digits}
use Rattle.json.specs.Print.{escape_byte}
use Rattle.repl_json.specs.Bad.{bad_body}
use Rattle.repl_json.proofs.worked.refusals_compute.Goals as goal

pub returns-clause-long : goal.returns-clause-long
unfolding bad_body digits
returns-clause-long c = refl

pub returns-clause-json : goal.returns-clause-json
unfolding bad_body digits
returns-clause-json c = refl

pub returns-clause-command : goal.returns-clause-command
unfolding bad_body digits
returns-clause-command c = refl

pub returns-clause-field : goal.returns-clause-field
unfolding bad_body digits escape_byte
returns-clause-field c = refl
