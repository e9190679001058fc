-- How a run ended, with what its note shows.
use Rattle.std.specs.Prelude.{ℕ, List, [], ◌++◌, codes, decimal}
use Rattle.command_line.specs.Usage.{usage_note}
use Rattle.session_server.specs.declared.run.End.{End}
use Rattle.session_server.specs.declared.run.End.TheVariants as ending
use Rattle.panto_cli.specs.Status.{status_of}
use Rattle.panto_cli.specs.declared.book.NoBook.{NoBook}
use Rattle.panto_cli.specs.declared.book.NoBook.TheVariants as no_book
use Rattle.panto_cli.specs.declared.notes.Outcome.{Outcome}
use Rattle.panto_cli.specs.declared.notes.Outcome.TheVariants as outcome
use Rattle.panto_cli.specs.declared.status.Status.{Status}
use Rattle.panto_cli.specs.declared.status.Status.TheVariants.{Done, Usage, ReadFault, WriteFault, BookRefused, Full, OpenFault, Worn, Memory, Long}

abbrev pub status_in : Outcome → Status
status_in (outcome.Plain status) = status
status_in (outcome.Full entries) = Full
status_in (outcome.BookRefused object) = BookRefused
status_in outcome.DoorFault = OpenFault

-- the line of a status that shows nothing more
abbrev pub plain_line : Status → List ℕ
plain_line Done = []
plain_line Usage = usage_note
plain_line ReadFault = codes "panto: read fault\n"
plain_line WriteFault = codes "panto: write fault\n"
plain_line BookRefused = []
plain_line Full = []
plain_line OpenFault = codes "panto: cannot open\n"
plain_line Worn = codes "panto: worn\n"
plain_line Memory = codes "panto: out of memory\n"
plain_line Long = codes "panto: input too long\n"

abbrev pub line_of : Outcome → List ℕ
line_of (outcome.Plain status) = plain_line status
line_of (outcome.Full entries) = codes "panto: full " ++ (decimal entries ++ codes "\n")
line_of (outcome.BookRefused object) = codes "panto: book: " ++ (object.items ++ codes "\n")
line_of outcome.DoorFault = codes "panto: door fault\n"

-- of a session that ended so
abbrev pub outcome_of : End → Outcome
outcome_of (ending.Full entries) = outcome.Full entries
outcome_of end = outcome.Plain (status_of end)

-- of a run that has no book
abbrev pub outcome_without : NoBook → Outcome
outcome_without no_book.Fault = outcome.Plain OpenFault
outcome_without (no_book.Refused object) = outcome.BookRefused object
outcome_without no_book.Memory = outcome.Plain Memory
