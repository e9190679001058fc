-- What serving many links leaves, by the words and by the status.
use Rattle.std.specs.Prelude.{◌≡◌, ◌<◌, ◌≤◌, ◌^◌, ◌⊎◌, ℕ, List, [], ◌++◌, length, map, take, sum_by, All, HoldsAt, Option, Some, None, is_some, Bool, true, false, codes}
use Rattle.std.specs.Io.KnownBytes.{Appends}
use Rattle.term_syntax.specs.Lex.{Text}
use Rattle.pan_io.specs.Books.{NamedBytes}
use Rattle.pan_io.specs.Doors.{ListensOn}
use Rattle.pan_io.specs.Faults.{Rose}
use Rattle.pan_io.specs.Put.{AppendsPrefix}
use Rattle.command_line.specs.Form.{Command, run, serve, check, demo}
use Rattle.command_set.specs.Theorems.{AllPrintSoundly}
use Rattle.command_set.specs.Values.{value}
use Rattle.goal_state.specs.State.{State}
use Rattle.state_tree.specs.declared.work.Entry.{Entry}
use Rattle.state_tree.specs.Server.{IsLegal}
use Rattle.turn_lock.specs.Meanings.{MAX_TURNS}
use Rattle.shared_board.specs.Boards.{BoardPassMeaning}
use Rattle.session_server.specs.Input.{requests_of_input}
use Rattle.link_server.specs.Doors.{DoorsMeaning, RoseAtDoors}
use Rattle.link_server.specs.Links.{ServedMeaning, IsServedLink}
use Rattle.link_server.specs.Served.{AreCalm, LeavesOthers}
use Rattle.panto_cli.specs.Books.{Items, Accepts, Refuses, IsTold, IsOpenFault}
use Rattle.panto_cli.specs.Ends.{Counted, HasRisen}
use Rattle.panto_cli.specs.Links.{ground_of, first_end}
use Rattle.panto_cli.specs.Notes.{IsNote, file_of, address_of, entries_of}
use Rattle.panto_cli.specs.Run.{Completed}
use Rattle.panto_cli.specs.Status.{status_of}
use Rattle.panto_cli.specs.declared.status.Status.{Status}
use Rattle.panto_cli.specs.declared.status.Status.TheVariants.{Usage, BookRefused, OpenFault, Memory}

-- the words are those of many links
abbrev pub IsServe : Option Command → Type 0
IsServe None = ⊥
IsServe (Some (run book entries workers)) = ⊥
IsServe (Some (serve listen book entries workers sessions)) = Unit {0}
IsServe (Some (check file)) = ⊥
IsServe (Some (demo seed count)) = ⊥

-- what was told and what was given back: the doors before and after the call, the links that were served, the journal and the last pass
pub record Given : Type 0 where
  pub doors : DoorsMeaning
  pub after : DoorsMeaning
  pub served : List ServedMeaning
  pub journal : Option (List Entry)
  pub last : Option (BoardPassMeaning Items)

-- ---- no board was opened

-- the words are of another form, or there is no book, or memory ran out
abbrev pub IsUnopened : Option (List NamedBytes) → Option Command → Counted → Status → Type 0
IsUnopened books form shelf Usage = ¬ IsServe form
IsUnopened books form shelf OpenFault = IsServe form × IsOpenFault books (file_of form) shelf.before shelf.after
IsUnopened books form shelf BookRefused = IsServe form × ((object : List ℕ) × Refuses books (file_of form) object)
IsUnopened books form shelf Memory = Unit {0}
IsUnopened books form shelf status = ⊥

-- ---- a board was opened and closed

-- How the links were accepted and the status is named. All of them were served, and the status is that of the first link whose session was not
-- done; or fewer were, since the doors failed, which their count shows.
abbrev pub IsNamedBy : ℕ → Given → Status → Type 0
IsNamedBy sessions given status =
    ((length given.served ≡ sessions) × (status ≡ status_of (first_end (map (λ link. link.end) given.served))))
    ⊎ ((length given.served < sessions) × (status ≡ OpenFault) × RoseAtDoors sessions given.doors given.after)

-- The journal is a legal history over the book, and each reply in it that prints a state as solved shows a proof. The doors listened on the
-- address of the words, or their count rose. Each link that was served fits the journal, and each entry has the pass of one. No link was taken
-- but those that were served. The last pass has seen the whole journal.
pub record ServesOver (items : Items) (listen : Text) (entries sessions : ℕ) (given : Given) (journal : List Entry) (last : BoardPassMeaning Items) (status : Status) : Type 0 where
  pub legal : IsLegal {S = State} value items journal
  pub sound : AllPrintSoundly items journal
  pub room : length journal ≤ entries
  pub listens : Rose given.doors.faults given.after.faults ⊎ ListensOn given.after.address listen
  pub left : LeavesOthers sessions (length given.served) given.doors given.after
  pub served : (place : ℕ) → place < length given.served → HoldsAt (IsServedLink {S = State} value (ground_of items entries) given.doors.links journal last.found place) given.served place
  pub by_links : All (λ entry. entry.pass < length given.served) journal
  pub seen : last.seen ≡ journal
  pub number : last.number ≡ 0
  pub named : IsNamedBy sessions given status

-- that over the book that the words name
abbrev pub ServesLinks : Option (List NamedBytes) → Option Text → Text → ℕ → ℕ → Given → List Entry → BoardPassMeaning Items → Status → Type 0
ServesLinks books file listen entries sessions given journal last status =
    (items : Items) × Accepts books file items × ServesOver items listen entries sessions given journal last status

-- ---- what the words leave

abbrev pub LeavesLinks : Option (List NamedBytes) → Option Command → Given → List Entry → BoardPassMeaning Items → Status → Type 0
LeavesLinks books None given journal last status = ⊥
LeavesLinks books (Some (run book entries workers)) given journal last status = ⊥
LeavesLinks books (Some (serve listen book entries workers sessions)) given journal last status = ServesLinks books book listen entries sessions given journal last status
LeavesLinks books (Some (check file)) given journal last status = ⊥
LeavesLinks books (Some (demo seed count)) given journal last status = ⊥

-- without a board there is no journal and no last pass, no link is served, and the doors are as they were
pub record LeavesDoors (given : Given) : Type 0 where
  pub served : given.served ≡ []
  pub doors : given.after ≡ given.doors

abbrev pub LeavesBy : Option (List NamedBytes) → Option Command → Counted → Given → Option (List Entry) → Option (BoardPassMeaning Items) → Status → Type 0
LeavesBy books form shelf given None None status = LeavesDoors given × IsUnopened books form shelf status
LeavesBy books form shelf given (Some journal) (Some last) status = LeavesLinks books form given journal last status
LeavesBy books form shelf given journal last status = ⊥

-- what serving leaves
abbrev pub IsServedBy : Option (List NamedBytes) → Option Command → Counted → Given → Status → Type 0
IsServedBy books form shelf given status = LeavesBy books form shelf given given.journal given.last status

-- ---- notes

abbrev pub listening_line : List ℕ
listening_line = codes "panto: listening\n"

-- the line of the status: an OpenFault is by the doors where a board was opened, and by the shelf where none was
abbrev pub IsStatusLine : Option (List NamedBytes) → Option Command → Option (List Entry) → Status → List ℕ → Type 0
IsStatusLine books form (Some journal) OpenFault line = line ≡ codes "panto: door fault\n"
IsStatusLine books form journal status line = IsNote books (file_of form) (entries_of form) status line

-- The notes: that panto listens, and the line of the status. It doesn't listen where no board was opened. Where one was, the first line is
-- written only where the doors listen on this address, and is left out only where their count rose and no link was served.
abbrev pub IsNoted : Text → Given → Option (List Entry) → Status → List ℕ → List ℕ → Type 0
IsNoted listen given None status line text = text ≡ line
IsNoted listen given (Some journal) status line text =
    ((text ≡ listening_line ++ line) × ListensOn given.after.address listen)
    ⊎ ((text ≡ line) × (given.served ≡ []) × (status ≡ OpenFault) × Rose given.doors.faults given.after.faults)

-- what the notes took before the line of the status, and whether they took all of it; the line was not written where they didn't
abbrev pub HasHeard : Text → Given → Status → Bool → Option (List ℕ) → Option (List ℕ) → ℕ → ℕ → Type 0
HasHeard listen given status true notes notes' faults faults' = (text : List ℕ) × IsNoted listen given given.journal status [] text × Appends notes notes' text
HasHeard listen given status false notes notes' faults faults' =
    (is_some given.journal ≡ true) × ListensOn given.after.address listen × Rose faults faults' × AppendsPrefix notes notes' listening_line

abbrev pub AreNotes : Option (List NamedBytes) → Option Command → Given → Status → List ℕ → Type 0
AreNotes books form given status text = (line : List ℕ) × IsStatusLine books form given.journal status line × IsNoted (address_of form) given given.journal status line text

-- ---- completeness

-- fewer turns were drawn than the lock has
abbrev pub IsInTurns : Option (BoardPassMeaning Items) → Type 0
IsInTurns None = Unit {0}
IsInTurns (Some last) = last.found < MAX_TURNS

-- Nothing but want of memory stands in the way: the book is accepted, no count rose, each input is within its limit, the journal has room for
-- every request, and the lock has turns for all. Then each session read its input to its end.
abbrev pub CompletesServe : Option (List NamedBytes) → Option Text → ℕ → ℕ → Counted → Given → Status → Type 0
CompletesServe books file entries sessions shelf given status = (items : Items) (links : List (List ℕ)) → IsTold books file → Accepts books file items
    → given.doors.links ≡ Some links → All (λ input. length input ≤ 2 ^ 40) (take sessions links)
    → sum_by (λ input. length (requests_of_input input)) (take sessions links) ≤ entries
    → ¬ HasRisen shelf → ¬ RoseAtDoors sessions given.doors given.after → AreCalm given.served → IsInTurns given.last → Completed status

abbrev pub CompletesLinks : Option (List NamedBytes) → Option Command → Counted → Given → Status → Type 0
CompletesLinks books None shelf given status = Unit {0}
CompletesLinks books (Some (run book entries workers)) shelf given status = Unit {0}
CompletesLinks books (Some (serve listen book entries workers sessions)) shelf given status = CompletesServe books book entries sessions shelf given status
CompletesLinks books (Some (check file)) shelf given status = Unit {0}
CompletesLinks books (Some (demo seed count)) shelf given status = Unit {0}
