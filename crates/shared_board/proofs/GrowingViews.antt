-- What a pass has seen grows, and its cache stays right.
use Rattle.std.proofs.Common.{◌≡◌, ℕ, ◌+◌, List, [], ◌∷◌, ◌++◌, Option, sym, subst}
use Rattle.repl_json.specs.declared.request.Ask.{Ask}
use Rattle.state_tree.specs.declared.work.Found.{Found}
use Rattle.state_tree.specs.declared.work.Entry.{Entry}
use Rattle.state_tree.specs.Value.{Value}
use Rattle.turn_lock.specs.Journals.{DifferByOthers, ExtendsByOthers, longer}
use Rattle.shared_board.specs.declared.board_tree.TreeGround.{TreeGround}
use Rattle.shared_board.specs.Boards.{BoardPassMeaning, pass_of}
use Rattle.shared_board.specs.Cached.{AreStatesSeen}
use Rattle.shared_board.specs.Calls.{GoesOnFrom}
use Rattle.shared_board.proofs.Journals.{both_begin}
use Rattle.shared_board.proofs.KeptStates.{stay_seen}

module _ {E : Type 0} where
  -- what a note brings
  pub learnt_views : (old new : BoardPassMeaning E) (note : List Entry) → DifferByOthers pass_of old.seen (old.number ∷ old.took) note [] → new.seen ≡ longer old.seen note → ExtendsByOthers pass_of note new.seen [] × GoesOnFrom old new.seen
  learnt_views old new note differ is =
      let begin = both_begin pass_of old.seen note (old.number ∷ old.took) [] differ in
      (subst (λ (l : List Entry). ExtendsByOthers pass_of note l []) (sym is) begin.1, subst (GoesOnFrom old) (sym is) begin.0)

module _ {E S : Type 0} (V : Ask → Found E S → Value E S) where
  -- the cache holds after the view has grown
  pub kept_after : (old new : BoardPassMeaning E) (more : List Entry) (kept : List (ℕ × S)) → new.the_ground ≡ old.the_ground → old.seen ++ more ≡ new.seen → AreStatesSeen V old.the_ground old.seen kept → AreStatesSeen V new.the_ground new.seen kept
  kept_after old new more kept same is are = subst (λ (g : Option (TreeGround E)). AreStatesSeen V g new.seen kept) (sym same) (stay_seen V old.the_ground old.seen more new.seen kept is are)
