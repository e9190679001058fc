-- The seats of a board: passes, each with the link that it serves.
use Rattle.std.specs.Prelude.{◌≡◌, ◌<◌, ◌≤◌, ◌⊎◌, ℕ, Bool, true, List, [], ◌∷◌, ◌++◌, length, All, Option}
use Rattle.pan_io.specs.Doors.{GivesFirst, HasTakenNone, HasNoLink, RoseAtAccept}
use Rattle.repl_json.specs.declared.request.Ask.{Ask}
use Rattle.state_tree.specs.declared.work.Found.{Found}
use Rattle.state_tree.specs.Value.{Value}
use Rattle.shared_board.specs.Boards.{BoardMeaning, BoardPassMeaning, IsBoardPassOf}
use Rattle.shared_board.specs.Calls.{OnlySeesMore, tree_with}
use Rattle.session_server.specs.PassSession.{PassSession}
use Rattle.session_server.specs.Turns.{TurnsBy}
use Rattle.session_server.specs.declared.run.End.{End}
use Rattle.session_server.specs.declared.run.End.TheVariants as ending
use Rattle.link_server.specs.Beside.{AreRun}
use Rattle.link_server.specs.Doors.{DoorsMeaning}
use Rattle.link_server.specs.Links.{Telling, none_yet}
use Rattle.link_server.specs.declared.served.Served.{Served}
use Rattle.link_server.specs.declared.seat.Seat.{Seat}

-- the link of a seat, as it is given back
abbrev pub served_at : {W I O E S : Type 0} → Seat W I O E S → Served I O
served_at seat = record { link = seat.pass.number; pass = seat.pass.number; end = seat.end; input = seat.input; output = seat.output }

module _ {E S : Type 0} (V : Ask → Found E S → Value E S) (board : BoardMeaning E) where
  -- a session of a pass of this board over a link whose halves had not failed, and whose output had taken nothing
  pub record IsLinkSession (old new : BoardPassMeaning E) (input left : Option (List ℕ)) (input_faults : ℕ) (taken : Option (List ℕ)) (output_faults : ℕ) (end : End) : Type 0 where
    pub own : IsBoardPassOf V board new
    pub same : OnlySeesMore old new
    pub session : PassSession V old.number input left (tree_with board.lock.the_ground old.seen) (tree_with board.lock.the_ground new.seen) (none_yet taken) taken end
    pub turns : TurnsBy old new end
    pub read : end ≡ ending.ReadFault → 0 < input_faults
    pub write : end ≡ ending.WriteFault → 0 < output_faults

module _ {W I O E S : Type 0} (tell : Telling I O) where
  -- no half of the link has failed, and the output has taken nothing
  pub record IsReady (seat : Seat W I O E S) : Type 0 where
    pub input_faults : tell.input_faults seat.input ≡ 0
    pub output_faults : tell.output_faults seat.output ≡ 0
    pub none_taken : HasTakenNone (tell.taken seat.output)

-- ---- links that are accepted for passes that wait

-- what the doors tell, the passes that wait, of which the last is the next, and whether an accept failed
pub record AcceptingMeaning (E : Type 0) : Type 0 where
  pub doors : DoorsMeaning
  pub waiting : List (BoardPassMeaning E)
  pub failed : Bool

module _ {E : Type 0} where
  -- the next link was accepted, whose input told this, for this pass
  pub record GivesLink (input : Option (List ℕ)) (pass : BoardPassMeaning E) (old new : AcceptingMeaning E) : Type 0 where
    pub first : GivesFirst old.doors.links input new.doors.links
    pub waiting : old.waiting ≡ new.waiting ++ pass ∷ []
    pub address : new.doors.address ≡ old.doors.address
    pub later : old.doors.faults ≤ new.doors.faults
    pub failed : new.failed ≡ old.failed

  -- no pass waits, or one does and the doors failed; told links that are none stay none
  pub record EndsLinks (old new : AcceptingMeaning E) : Type 0 where
    pub waiting : new.waiting ≡ old.waiting
    pub address : new.doors.address ≡ old.doors.address
    pub later : old.doors.faults ≤ new.doors.faults
    pub why : ((old.waiting ≡ []) × (new.doors ≡ old.doors) × (new.failed ≡ old.failed))
        ⊎ ((0 < length old.waiting) × (new.failed ≡ true) × RoseAtAccept old.doors.links old.doors.faults new.doors.faults × (HasNoLink old.doors.links → HasNoLink new.doors.links))

module _ {E S : Type 0} (V : Ask → Found E S → Value E S) (board : BoardMeaning E) where
  -- the session of this pass over a link whose input told this has ended
  abbrev pub IsSeated : {W I O : Type 0} → Telling I O → Option (List ℕ) → BoardPassMeaning E → Seat W I O E S → Type 0
  IsSeated tell input pass seat = IsLinkSession V board pass seat.pass input (tell.left seat.input) (tell.input_faults seat.input) (tell.taken seat.output) (tell.output_faults seat.output) seat.end

  -- Links were accepted, each for the next pass, and served, until no pass waited or the doors failed. Of the seats that were added the first
  -- link has the last.
  abbrev pub AreServed : {W I O : Type 0} → Telling I O → AcceptingMeaning E → AcceptingMeaning E → List (Seat W I O E S) → List (Seat W I O E S) → Type 0
  AreServed tell old new seats more = AreRun (λ q seat q'. GivesLink (tell.left seat.input) seat.pass q q') (λ seat seat'. IsSeated tell (tell.left seat.input) seat.pass seat') EndsLinks old new seats more

  -- what a session may run over: the pass is the board's, and nothing of its link was used
  abbrev pub CanServe : {W I O : Type 0} → Telling I O → ℕ → Seat W I O E S → Type 0
  CanServe tell workers seat = (0 < workers) × (workers ≤ 64) × IsBoardPassOf V board seat.pass × IsReady tell seat

  -- passes of the board wait
  abbrev pub AreWaiting : ℕ → List (BoardPassMeaning E) → Type 0
  AreWaiting workers waiting = (0 < workers) × (workers ≤ 64) × All (IsBoardPassOf V board) waiting
