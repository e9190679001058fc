-- What the passes of a new board are.
use Rattle.std.specs.Prelude.{◌≡◌, ◌<◌, ℕ, List, [], length, All, HoldsAt}
use Rattle.state_tree.specs.declared.work.Entry.{Entry}
use Rattle.turn_lock.specs.Meanings.{SharedMeaning, IsPassOf}
use Rattle.shared_board.specs.declared.board_tree.TreeGround.{TreeGround}
use Rattle.shared_board.specs.Boards.{BoardPassMeaning}

module _ {E : Type 0} (lock : SharedMeaning Entry (TreeGround E)) (bound : ℕ) where
  -- pass 0 of the lock or a pass that was split off it, which has this number, where the numbers that were given are below the bound
  pub record IsSplit (number : ℕ) (pass : BoardPassMeaning E) : Type 0 where
    pub own : IsPassOf lock pass
    pub number_is : pass.number ≡ number
    pub seen : pass.seen ≡ lock.journal
    pub gave : All (λ given. (0 < given) × (given < bound)) pass.gave
    pub took : pass.took ≡ []
    pub notes : (pass.told ≡ 0) × (pass.learnt ≡ 0)
    pub found : pass.found ≡ 0

  -- each has the number of its place
  abbrev pub AreSplit : List (BoardPassMeaning E) → Type 0
  AreSplit passes = (i : ℕ) → i < length passes → HoldsAt (IsSplit i) passes i
