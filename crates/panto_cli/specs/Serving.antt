-- What the parts of serving stand on.
use Rattle.std.specs.Prelude.{◌≡◌, ◌<◌, ◌≤◌, ◌⊎◌, ℕ, Bool, true, false, List, length, take, Option, Some}
use Rattle.std.specs.Io.KnownBytes.{Appends, Keeps}
use Rattle.term_syntax.specs.Lex.{Text}
use Rattle.pan_io.specs.Books.{NamedBytes}
use Rattle.pan_io.specs.Doors.{ListensOn}
use Rattle.pan_io.specs.Faults.{Rose}
use Rattle.pan_io.specs.Put.{AppendsPrefix}
use Rattle.command_line.specs.Form.{Command}
use Rattle.goal_state.specs.State.{State}
use Rattle.command_set.specs.Values.{value}
use Rattle.state_tree.specs.declared.work.Entry.{Entry}
use Rattle.shared_board.specs.declared.board_tree.TreeGround.{TreeGround}
use Rattle.shared_board.specs.Boards.{BoardPassMeaning}
use Rattle.link_server.specs.Doors.{DoorsMeaning}
use Rattle.link_server.specs.Links.{ServedMeaning}
use Rattle.link_server.specs.Served.{HasServed, LeavesOthers, FitsLinks, CompletesSessions}
use Rattle.panto_cli.specs.Books.{Items}
use Rattle.panto_cli.specs.Ends.{Counted}
use Rattle.panto_cli.specs.Outcomes.{status_in, line_of}
use Rattle.panto_cli.specs.Serve.{Given, IsServedBy, IsStatusLine, CompletesLinks, listening_line}
use Rattle.panto_cli.specs.declared.notes.Outcome.{Outcome}

-- the numbers of the words are in their ranges
abbrev pub IsPlan : ℕ → ℕ → ℕ → Type 0
IsPlan entries workers sessions = (0 < entries) × (entries ≤ 1048576) × (0 < workers) × (workers ≤ 64) × (0 < sessions) × (sessions ≤ 64)

-- A board over this ground was closed. The doors were to listen on the address, and where they did, to accept so many links.
pub record IsClosedBoard (the_ground : TreeGround Items) (listen : Text) (sessions : ℕ) (old new : DoorsMeaning) (served : List ServedMeaning) (failed : Bool) (journal : List Entry) (last : BoardPassMeaning Items) : Type 0 where
  pub fits : FitsLinks {S = State} value the_ground old.links served journal last
  pub count : HasServed sessions old new (length served) failed
  pub left : LeavesOthers sessions (length served) old new
  pub listens : Rose old.faults new.faults ⊎ ListensOn new.address listen
  pub complete : (inputs : List (List ℕ)) → old.links ≡ Some inputs → CompletesSessions the_ground.entries (take sessions inputs) served last.found

-- What the notes took while the doors were opened: the line, and the doors listen if this is so, or nothing, and no link was served if that is so.
abbrev pub Hears : Bool → Type 0 → Type 0 → Option (List ℕ) → Option (List ℕ) → ℕ → ℕ → Type 0
Hears true listens unserved notes notes' faults faults' = (Appends notes notes' listening_line × listens) ⊎ (Keeps notes notes' × unserved)
Hears false listens unserved notes notes' faults faults' = listens × Rose faults faults' × AppendsPrefix notes notes' listening_line

-- how serving ended: its clauses as one statement
pub record EndsServing (books : Option (List NamedBytes)) (form : Option Command) (shelf : Counted) (given : Given) (outcome : Outcome) : Type 0 where
  pub leaves : IsServedBy books form shelf given (status_in outcome)
  pub note : IsStatusLine books form given.journal (status_in outcome) (line_of outcome)
  pub complete : CompletesLinks books form shelf given (status_in outcome)
