use Rattle.std.proofs.Common.{refl, inr}
use Rattle.std.specs.Fmt.{digits}
use Rattle.ld_terms.proofs.examples.names_compute.Goals as goal

pub returns-clause-level : goal.returns-clause-level
unfolding digits
returns-clause-level c = refl

pub returns-clause-entry : goal.returns-clause-entry
unfolding digits
returns-clause-entry c = inr refl
