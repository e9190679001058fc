use Rattle.std.proofs.Common.{length}
use Rattle.book_reader.specs.Reading.{parameters, parameters_from}
use Rattle.book_reader.proofs.Turns.{Leads}
use Rattle.book_reader.proofs.read.parameters.Given as goal

abbrev pub invariant-more : goal.invariant-more
invariant-more l = Leads (parameters l.fn.cursor) parameters_from l.found.items l.cursor

abbrev pub decreases-more : goal.decreases-more
decreases-more l = length l.cursor.ahead
