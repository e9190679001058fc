-- What a run of the program leaves, by its words and its status.
use Rattle.std.specs.Prelude.{◌≡◌, ◌≤◌, ◌^◌, ◌⊎◌, ℕ, List, [], ◌++◌, length, Option, Some, None, codes, decimal}
use Rattle.std.specs.Io.KnownBytes.{Appends, Keeps}
use Rattle.term_syntax.specs.Lex.{Text}
use Rattle.pan_io.specs.Books.{NamedBytes}
use Rattle.pan_io.specs.Put.{AppendsPrefix}
use Rattle.command_line.specs.Form.{Command, run, serve, check, demo}
use Rattle.command_set.specs.Theorems.{AllPrintSoundly}
use Rattle.command_set.specs.Values.{value}
use Rattle.goal_state.specs.State.{State}
use Rattle.state_tree.specs.TreeModel.{TreeModel}
use Rattle.state_tree.specs.Server.{IsLegal}
use Rattle.session_server.specs.Input.{requests_of_input}
use Rattle.session_server.specs.Session.{Session}
use Rattle.session_server.specs.MemoryLines.{ShowsMemory}
use Rattle.session_server.specs.declared.run.End.{End}
use Rattle.panto_cli.specs.Books.{Items, Accepts, Refuses, IsTold}
use Rattle.panto_cli.specs.Demo.{demo_line}
use Rattle.panto_cli.specs.Status.{status_of}
use Rattle.panto_cli.specs.declared.status.Status.{Status}
use Rattle.panto_cli.specs.declared.status.Status.TheVariants.{Done, Usage, WriteFault, BookRefused, OpenFault, Worn, Memory}

-- the words are of a form that the program serves
abbrev pub IsServed : Option Command → Type 0
IsServed None = ⊥
IsServed (Some (run book entries workers)) = Unit {0}
IsServed (Some (serve listen book entries workers sessions)) = ⊥
IsServed (Some (check file)) = Unit {0}
IsServed (Some (demo seed count)) = Unit {0}

-- the words are those of a session
abbrev pub IsRun : Option Command → Type 0
IsRun None = ⊥
IsRun (Some (run book entries workers)) = Unit {0}
IsRun (Some (serve listen book entries workers sessions)) = ⊥
IsRun (Some (check file)) = ⊥
IsRun (Some (demo seed count)) = ⊥

-- a tree over a book, before its first entry
abbrev pub opened : Items → ℕ → TreeModel Items
opened items entries = record { book = items; entries = entries; journal = [] }

-- A session over the input answered its requests, as pass 0 of a tree over the book, and ended as the status names. Session says which
-- requests were entered, and that the output has their replies by the one-thread server. The history that it leaves is legal over the book,
-- and has no more entries than the words leave room for, so that Full comes exactly where a further request was to be entered.
-- Each reply is a line of the output, and entry i says Memory exactly where line i is the memory line `{"error":"memory","seq":i}`, so that
-- the requests and the output fix the history. At a write fault the last entries may be without lines.
pub record Answered (items : Items) (entries : ℕ) (input left out out' : Option (List ℕ)) (status : Status) : Type 0 where
  pub end : End
  pub named : status ≡ status_of end
  pub tree : TreeModel Items
  pub session : Session {S = State} value input left (opened items entries) tree out out' end
  pub legal : IsLegal {S = State} value items tree.journal
  pub room : length tree.journal ≤ entries
  pub shown : ShowsMemory 0 tree.journal out out' end

-- A session over the book that the words name. Each reply that prints a state as solved shows a proof: the text under `term` reads, in the
-- state's environment and without names, as a closed term without metavariables, which the rules of λD derive there to have the state's
-- type, and that is what the text of the state's `goal.start` reads as. A term too large to be printed is derived itself.
abbrev pub Serves : Option (List NamedBytes) → Option Text → ℕ → Option (List ℕ) → Option (List ℕ) → Option (List ℕ) → Option (List ℕ) → Status → Type 0
Serves books file entries input left out out' status =
    (items : Items) × Accepts books file items × (answered : Answered items entries input left out out' status) × AllPrintSoundly items answered.tree.journal

-- what `run` leaves
abbrev pub Runs : Option (List NamedBytes) → Option Text → ℕ → Option (List ℕ) → Option (List ℕ) → Option (List ℕ) → Option (List ℕ) → Status → Type 0
Runs books file entries input left out out' Usage = ⊥
Runs books file entries input left out out' Worn = ⊥
Runs books file entries input left out out' OpenFault = Keeps out out'
Runs books file entries input left out out' BookRefused = Keeps out out' × ((object : List ℕ) × Refuses books file object)
-- memory ran out before the session, or in it
Runs books file entries input left out out' Memory = Keeps out out' ⊎ Serves books file entries input left out out' Memory
Runs books file entries input left out out' status = Serves books file entries input left out out' status

-- the line that `check` prints for so many items
abbrev pub checked_line : ℕ → List ℕ
checked_line count = codes "checked " ++ (decimal count ++ codes "\n")

-- what `check` leaves
abbrev pub Checks : Option (List NamedBytes) → Text → Option (List ℕ) → Option (List ℕ) → Status → Type 0
Checks books file out out' Done = (items : Items) × Accepts books (Some file) items × Appends out out' (checked_line (length items))
Checks books file out out' WriteFault = (items : Items) × Accepts books (Some file) items × AppendsPrefix out out' (checked_line (length items))
Checks books file out out' BookRefused = Keeps out out' × ((object : List ℕ) × Refuses books (Some file) object)
Checks books file out out' OpenFault = Keeps out out'
Checks books file out out' Memory = Keeps out out'
Checks books file out out' status = ⊥

-- what `demo` leaves
abbrev pub Demos : ℕ → ℕ → Option (List ℕ) → Option (List ℕ) → Status → Type 0
Demos seed count out out' Done = Appends out out' (demo_line seed count)
Demos seed count out out' WriteFault = AppendsPrefix out out' (demo_line seed count)
Demos seed count out out' Memory = Keeps out out'
Demos seed count out out' status = ⊥

-- words of no form that is served leave nothing
abbrev pub LeavesNothing : Option (List ℕ) → Option (List ℕ) → Status → Type 0
LeavesNothing out out' status = Keeps out out' × ((status ≡ Usage) ⊎ (status ≡ Memory))

-- What the words leave. Memory may also run out while the words are read.
abbrev pub Leaves : Option (List NamedBytes) → Option Command → Option (List ℕ) → Option (List ℕ) → Option (List ℕ) → Option (List ℕ) → Status → Type 0
Leaves books None input left out out' status = LeavesNothing out out' status
Leaves books (Some (run book entries workers)) input left out out' status = Runs books book entries input left out out' status
Leaves books (Some (serve listen book entries workers sessions)) input left out out' status = LeavesNothing out out' status
Leaves books (Some (check file)) input left out out' status = Checks books file out out' status
Leaves books (Some (demo seed count)) input left out out' status = Demos seed count out out' status

-- the run came to its end, or memory ran out
abbrev pub Completed : Status → Type 0
Completed status = (status ≡ Done) ⊎ (status ≡ Memory)

-- Nothing but want of memory stands in the way of `run`: the book is accepted, no count rose, the input is within its limit, and the
-- journal has room for every request.
abbrev pub CompletesRun : Option (List NamedBytes) → Option Text → ℕ → Option (List ℕ) → Type 0 → Status → Type 0
CompletesRun books file entries input rose status = (items : Items) (bytes : List ℕ) → IsTold books file → Accepts books file items → input ≡ Some bytes
    → length bytes ≤ 2 ^ 40 → length (requests_of_input bytes) ≤ entries → ¬ rose → Completed status

-- nor of `check`
abbrev pub CompletesCheck : Option (List NamedBytes) → Text → Type 0 → Status → Type 0
CompletesCheck books file rose status = (items : Items) → IsTold books (Some file) → Accepts books (Some file) items → ¬ rose → Completed status

-- nor of `demo`
abbrev pub CompletesDemo : Type 0 → Status → Type 0
CompletesDemo rose status = ¬ rose → Completed status

abbrev pub Completes : Option (List NamedBytes) → Option Command → Option (List ℕ) → Type 0 → Status → Type 0
Completes books None input rose status = Unit {0}
Completes books (Some (run book entries workers)) input rose status = CompletesRun books book entries input rose status
Completes books (Some (serve listen book entries workers sessions)) input rose status = Unit {0}
Completes books (Some (check file)) input rose status = CompletesCheck books file rose status
Completes books (Some (demo seed count)) input rose status = CompletesDemo rose status
