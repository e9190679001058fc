use Rattle.std.proofs.Common.{refl}
use Rattle.std.specs.Fmt.{digits}
use Rattle.repl_json.proofs.worked.replies_compute.Goals as goal

pub returns-clause-one : goal.returns-clause-one
unfolding digits
returns-clause-one c = refl

pub returns-clause-id_first : goal.returns-clause-id_first
unfolding digits
returns-clause-id_first c = refl

pub returns-clause-id_last : goal.returns-clause-id_last
unfolding digits
returns-clause-id_last c = refl
