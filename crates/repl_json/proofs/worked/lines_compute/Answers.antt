use Rattle.std.proofs.Common.{refl}
use Rattle.std.specs.Fmt.{digits}
use Rattle.repl_json.specs.Reply.{text}
use Rattle.repl_json.proofs.worked.lines_compute.Goals as goal

pub returns-clause-ahead : goal.returns-clause-ahead
unfolding text digits
returns-clause-ahead c = refl

pub returns-clause-env : goal.returns-clause-env
unfolding text digits
returns-clause-env c = refl

pub returns-clause-state : goal.returns-clause-state
unfolding text digits
returns-clause-state c = refl

pub returns-clause-deleted : goal.returns-clause-deleted
unfolding text digits
returns-clause-deleted c = refl

pub returns-clause-reset : goal.returns-clause-reset
unfolding text digits
returns-clause-reset c = refl

pub returns-clause-stat : goal.returns-clause-stat
unfolding text digits
returns-clause-stat c = refl

pub returns-clause-memory : goal.returns-clause-memory
unfolding text digits
returns-clause-memory c = refl
