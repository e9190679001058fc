-- What the cache of a pass may hold.
use Rattle.std.specs.Prelude.{◌≡◌, ℕ, List, Option, Some, None, Contains}
use Rattle.repl_json.specs.declared.request.Ask.{Ask}
use Rattle.state_tree.specs.declared.work.Found.{Found}
use Rattle.state_tree.specs.declared.work.Entry.{Entry}
use Rattle.state_tree.specs.Value.{Value}
use Rattle.state_tree.specs.Server.{PlainTree, replay, state_at}
use Rattle.shared_board.specs.declared.board_tree.TreeGround.{TreeGround}

module _ {E S : Type 0} where
  -- each kept state is what the tree holds under its id, live or not
  pub record AreStatesOf (t : PlainTree E S) (kept : List (ℕ × S)) : Type 0 where
    pub each : (id : ℕ) (state : S) → Contains kept (id, state) → state_at t (Some id) ≡ Some state

  -- of the tree that the entries seen so far make over the book
  abbrev pub AreStatesSeen : (Ask → Found E S → Value E S) → Option (TreeGround E) → List Entry → List (ℕ × S) → Type 0
  AreStatesSeen V None seen kept = Unit {0}
  AreStatesSeen V (Some the_ground) seen kept = AreStatesOf (replay V the_ground.book seen) kept
