use Rattle.std.proofs.Common.{refl}
use Rattle.std.specs.Fmt.{digits}
use Rattle.unification.proofs.examples.pruning_computes.Goals as goal

pub returns-clause-kept : goal.returns-clause-kept
unfolding digits
returns-clause-kept c = refl

pub returns-clause-kept_short : goal.returns-clause-kept_short
unfolding digits
returns-clause-kept_short c = refl
