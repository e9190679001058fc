use Rattle.std.proofs.Common.{refl}
use Rattle.std.specs.Fmt.{digits}
use Rattle.term_syntax.proofs.round_trip.printed_examples_compute.Goals as goal

pub returns-clause-abstractions : goal.returns-clause-abstractions
unfolding digits
returns-clause-abstractions c = refl

pub returns-clause-arrows : goal.returns-clause-arrows
unfolding digits
returns-clause-arrows c = refl

pub returns-clause-unnamed : goal.returns-clause-unnamed
unfolding digits
returns-clause-unnamed c = refl

pub returns-clause-hidden : goal.returns-clause-hidden
unfolding digits
returns-clause-hidden c = refl

pub returns-clause-constants : goal.returns-clause-constants
unfolding digits
returns-clause-constants c = refl

pub returns-clause-metavariables : goal.returns-clause-metavariables
unfolding digits
returns-clause-metavariables c = refl

pub returns-clause-redex : goal.returns-clause-redex
unfolding digits
returns-clause-redex c = refl
