use Rattle.term_syntax.proofs.RoundTrip.{printed_is_read}
use Rattle.term_syntax.proofs.round_trip.printed_is_read.Goals as goal

pub returns : goal.returns
returns c = printed_is_read
