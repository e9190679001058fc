use Rattle.term_syntax.proofs.PrintedAscii.{printed_is_ascii}
use Rattle.term_syntax.proofs.round_trip.printed_is_ascii.Goals as goal

pub returns : goal.returns
returns c = printed_is_ascii
