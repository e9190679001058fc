use Rattle.std.proofs.Common.{length}
use Rattle.book_reader.specs.Reading.{items, items_from}
use Rattle.book_reader.proofs.Turns.{Leads}
use Rattle.book_reader.proofs.read.items.Given as goal

abbrev pub invariant-more : goal.invariant-more
invariant-more l = Leads (items l.fn.cursor) items_from l.found.items l.cursor

abbrev pub decreases-more : goal.decreases-more
decreases-more l = length l.cursor.ahead
