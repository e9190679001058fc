use Rattle.term_syntax.proofs.ScopedTerms.{scoped_is_readable as law}
use Rattle.term_syntax.proofs.round_trip.scoped_is_readable.Goals as goal

pub returns : goal.returns
returns c = law
