-- Where a session looks requests up and enters them, as contracts see it.
use Rattle.std.specs.Prelude.{◌≡◌, ◌<◌, ◌≤◌, ◌⊎◌, ℕ, Bool, true, false, [], Result, Ok, Err}
use Rattle.state_tree.specs.TreeModel.{TreeModel}
use Rattle.turn_lock.specs.Meanings.{MAX_TURNS}
use Rattle.shared_board.specs.declared.board_tree.TreeGround.{TreeGround}
use Rattle.shared_board.specs.Boards.{BoardPassMeaning}
use Rattle.shared_board.specs.Calls.{tree_with}
use Rattle.session_server.specs.Sees.{OthersCome}
use Rattle.session_server.specs.declared.answer.Halt.{Halt}
use Rattle.session_server.specs.declared.answer.Halt.TheVariants.{Write, Full, Worn, Memory}
use Rattle.session_server.specs.declared.run.End.{End}
use Rattle.session_server.specs.declared.run.End.TheVariants as ending
use Rattle.session_server.specs.declared.run.Step.{Step}
use Rattle.session_server.specs.declared.run.Step.TheVariants as stepping

-- A desk and the places at it. A place has a view, the tree that its pass has seen, and a found number, the greatest number of turns that it
-- found drawn. The rest of it is what no call changes.
pub record DeskMeaning (P E : Type 0) : Type 0 where
  -- whether no other pass enters
  pub alone : Bool
  -- the number of the pass that enters
  pub pass : ℕ
  pub view : P → TreeModel E
  pub found : P → ℕ
  pub rest : P → P

-- a tree that the session has alone, which takes no turns
abbrev pub tree_desk : {E : Type 0} → DeskMeaning (TreeModel E) E
tree_desk = record { alone = true; pass = 0; view = λ tree. tree; found = λ tree. 0; rest = λ tree. record { book = tree.book; entries = tree.entries; journal = [] } }

-- a board with this ground, at which the pass of this number enters
abbrev pub board_desk : {E : Type 0} → TreeGround E → ℕ → DeskMeaning (BoardPassMeaning E) E
board_desk the_ground number =
    record { alone = false; pass = number; view = λ pass. tree_with the_ground pass.seen; found = λ pass. pass.found; rest = λ pass. record pass { seen = []; found = 0 } }

module _ {P E : Type 0} (desk : DeskMeaning P E) where
  -- entries of other passes came, or none
  abbrev pub OthersComeTo : P → P → Type 0
  OthersComeTo old new = OthersCome desk.alone desk.pass (desk.view old) (desk.view new)

  -- calls that were answered took no turn, or of those that the lock has
  pub record Went (old new : P) : Type 0 where
    pub rest_is : desk.rest new ≡ desk.rest old
    pub later : desk.found old ≤ desk.found new
    pub in_time : (new ≡ old) ⊎ (desk.found new < MAX_TURNS)

  -- the lock has had all its turns
  pub record Wore (turns : ℕ) (old new : P) : Type 0 where
    pub rest_is : desk.rest new ≡ desk.rest old
    pub later : desk.found old ≤ desk.found new
    pub turns_are : turns ≡ desk.found new
    pub all_drawn : MAX_TURNS ≤ desk.found new

  -- by what a call gave, a step, and the end of a session: it is worn exactly where a turn was asked for after the last
  abbrev pub GoesHalting : P → P → Halt → Type 0
  GoesHalting old new Write = Went old new
  GoesHalting old new (Full n) = Went old new
  GoesHalting old new (Worn n) = Wore n old new
  GoesHalting old new Memory = Went old new

  abbrev pub GoesBy : {A : Type 0} → P → P → Result A Halt → Type 0
  GoesBy old new (Ok x) = Went old new
  GoesBy old new (Err halt) = GoesHalting old new halt

  abbrev pub GoesTo : P → P → End → Type 0
  GoesTo old new ending.Done = Went old new
  GoesTo old new ending.ReadFault = Went old new
  GoesTo old new ending.WriteFault = Went old new
  GoesTo old new (ending.Full n) = Went old new
  GoesTo old new (ending.Worn n) = Wore n old new
  GoesTo old new (ending.Long n) = Went old new
  GoesTo old new ending.Memory = Went old new

  abbrev pub GoesStep : P → P → Step → Type 0
  GoesStep old new stepping.Next = Went old new
  GoesStep old new (stepping.Stop end) = GoesTo old new end

-- why looks stop
abbrev pub StopsLooking : Halt → Type 0
StopsLooking Write = ⊥
StopsLooking (Full n) = ⊥
StopsLooking (Worn n) = Unit {0}
StopsLooking Memory = Unit {0}
