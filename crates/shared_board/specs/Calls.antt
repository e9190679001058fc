-- What the calls of a board leave.
use Rattle.std.specs.Prelude.{◌≡◌, ◌<◌, ◌≤◌, ◌⊎◌, ℕ, Bool, true, List, ◌∷◌, ◌++◌}
use Rattle.repl_json.specs.declared.request.Ask.{Ask}
use Rattle.state_tree.specs.declared.tree.Outcome.{Outcome}
use Rattle.state_tree.specs.declared.work.Found.{Found}
use Rattle.state_tree.specs.declared.work.Entry.{Entry}
use Rattle.state_tree.specs.Value.{Value}
use Rattle.state_tree.specs.Server.{PlainTree, replay}
use Rattle.state_tree.specs.TreeModel.{TreeModel}
use Rattle.state_tree.specs.Prepared.{Prepared}
use Rattle.state_tree.specs.Enters.{Enters}
use Rattle.turn_lock.specs.Journals.{ExtendsByOthers}
use Rattle.turn_lock.specs.Meanings.{MAX_TURNS}
use Rattle.shared_board.specs.declared.board_tree.TreeGround.{TreeGround}
use Rattle.shared_board.specs.declared.turns.LookFault.{LookFault}
use Rattle.shared_board.specs.declared.turns.LookFault.TheVariants.{Worn, Memory}
use Rattle.shared_board.specs.Boards.{BoardPassMeaning, pass_of}

module _ {E : Type 0} where
  -- the journal is what a pass had seen, and then entries of other passes
  abbrev pub GoesOnFrom : BoardPassMeaning E → List Entry → Type 0
  GoesOnFrom pass journal = ExtendsByOthers pass_of pass.seen journal (pass.number ∷ pass.took)

  -- all that changed is that the view may have grown and the found number may have risen
  pub record OnlySeesMore (old new : BoardPassMeaning E) : Type 0 where
    pub same : new ≡ record old { seen = new.seen; found = new.found }
    pub more : List Entry
    pub view : old.seen ++ more ≡ new.seen
    pub found : old.found ≤ new.found

  -- a call that was answered took no turn, or one of those that the lock has
  abbrev pub IsInTime : BoardPassMeaning E → BoardPassMeaning E → Type 0
  IsInTime old new = (new ≡ old) ⊎ (new.found < MAX_TURNS)

  -- the lock has had all its turns, and nothing was seen
  pub record IsWorn (turns : ℕ) (old new : BoardPassMeaning E) : Type 0 where
    pub turns_are : turns ≡ new.found
    pub all_drawn : MAX_TURNS ≤ new.found
    pub unseen : new.seen ≡ old.seen

  -- why a look fails: there was no memory for what the request names, or the lock is worn
  abbrev pub LookFails : Bool → BoardPassMeaning E → BoardPassMeaning E → LookFault → Type 0
  LookFails names_any old new (Worn turns) = IsWorn turns old new
  LookFails names_any old new Memory = (names_any ≡ true) × IsInTime old new

  -- the tree with this ground and this journal
  abbrev pub tree_with : TreeGround E → List Entry → TreeModel E
  tree_with the_ground journal = record { book = the_ground.book; entries = the_ground.entries; journal = journal }

module _ {E S : Type 0} (V : Ask → Found E S → Value E S) (the_ground : TreeGround E) where
  -- what these entries make over the book
  abbrev pub tree_seen : List Entry → PlainTree E S
  tree_seen seen = replay V the_ground.book seen

  -- the turn found a journal that goes on from what the pass had seen, and entering did on it what the tree's own call does. The pass has then seen the journal that this left
  pub record EntersAfter {W : Type 0} (old new : BoardPassMeaning E) (ready : Prepared E S) (outcome : Outcome W E S) : Type 0 where
    pub journal : List Entry
    pub others : GoesOnFrom old journal
    pub enters : Enters V (tree_with the_ground journal) (tree_with the_ground new.seen) old.number ready outcome
