-- How the words of a run end: its clauses as one statement.
use Rattle.std.specs.Prelude.{◌≡◌, ◌⊎◌, ℕ, List, Option}
use Rattle.pan_io.specs.Books.{NamedBytes}
use Rattle.pan_io.specs.Faults.{Rose}
use Rattle.command_line.specs.Form.{Command}
use Rattle.panto_cli.specs.Books.{IsOpenFault}
use Rattle.panto_cli.specs.Notes.{IsNote, file_of, entries_of}
use Rattle.panto_cli.specs.Outcomes.{status_in, line_of}
use Rattle.panto_cli.specs.Run.{Leaves, Completes}
use Rattle.panto_cli.specs.declared.notes.Outcome.{Outcome}
use Rattle.panto_cli.specs.declared.status.Status.TheVariants.{ReadFault, WriteFault, OpenFault}

-- a count before and after
pub record Counted : Type 0 where
  pub before : ℕ
  pub after : ℕ

abbrev pub HasRisen : Counted → Type 0
HasRisen count = Rose count.before count.after

pub record Ends (books : Option (List NamedBytes)) (form : Option Command) (input left out out' : Option (List ℕ)) (shelf source sink : Counted) (outcome : Outcome) : Type 0 where
  pub leaves : Leaves books form input left out out' (status_in outcome)
  pub note : IsNote books (file_of form) (entries_of form) (status_in outcome) (line_of outcome)
  pub opened : status_in outcome ≡ OpenFault → IsOpenFault books (file_of form) shelf.before shelf.after
  pub read : status_in outcome ≡ ReadFault → HasRisen source
  pub write : status_in outcome ≡ WriteFault → HasRisen sink
  pub complete : Completes books form input (HasRisen shelf ⊎ HasRisen source ⊎ HasRisen sink) (status_in outcome)
