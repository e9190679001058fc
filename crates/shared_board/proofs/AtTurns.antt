-- What a turn leaves, in the words of a board.
use Rattle.std.proofs.Common.{◌≡◌, ℕ, ◌≤◌, List, ◌++◌, sym, ap, ◌∙◌, subst, append_assoc}
use Rattle.repl_json.specs.declared.request.Ask.{Ask}
use Rattle.state_tree.specs.declared.tree.Outcome.{Outcome}
use Rattle.state_tree.specs.declared.work.Found.{Found}
use Rattle.state_tree.specs.declared.work.Entry.{Entry}
use Rattle.state_tree.specs.Value.{Value}
use Rattle.state_tree.specs.Server.{replay}
use Rattle.state_tree.specs.TreeModel.{TreeModel, Holds}
use Rattle.state_tree.specs.Prepared.{Prepared}
use Rattle.state_tree.specs.Enters.{Enters, tree_of}
use Rattle.state_tree.proofs.Stays.{holds_beyond}
use Rattle.state_tree.proofs.Later.{enters_more}
use Rattle.shared_board.specs.declared.board_tree.TreeGround.{TreeGround}
use Rattle.shared_board.specs.Boards.{BoardPassMeaning}
use Rattle.shared_board.specs.Calls.{GoesOnFrom, OnlySeesMore, tree_seen}

-- the ground of a tree
abbrev pub ground_in : {E : Type 0} → TreeModel E → TreeGround E
ground_in tree = record { book = tree.book; entries = tree.entries }

module _ {E S : Type 0} (V : Ask → Found E S → Value E S) where
  -- what was found is held in the tree that a turn finds
  pub held_at : (g : TreeGround E) (tree : TreeModel E) (seen more : List Entry) (ask : Ask) (found : Found E S)
      → ground_in tree ≡ g → seen ++ more ≡ tree.journal → Holds (tree_seen V g seen) ask found → Holds (tree_of V tree) ask found
  held_at g tree seen more ask found same is held =
      let book : tree.book ≡ g.book = ap (λ h. h.book) same in
      let before : Holds (replay V tree.book seen) ask found = subst (λ (b : E). Holds (replay V b seen) ask found) (sym book) held in
      subst (λ (l : List Entry). Holds (replay V tree.book l) ask found) is (holds_beyond V tree.book seen more ask found before)

  -- the pass sees what the turn found, and what entering added
  pub sees_entered : {W : Type 0} (x y : TreeModel E) (number : ℕ) (ready : Prepared E S) (outcome : Outcome W E S) (old new : BoardPassMeaning E) (journal : List Entry)
      → Enters V x y number ready outcome → x.journal ≡ journal → new.seen ≡ y.journal → new ≡ record old { seen = new.seen; found = new.found } → old.found ≤ new.found → GoesOnFrom old journal → OnlySeesMore old new
  sees_entered x y number ready outcome old new journal enters found seen same later goes =
      let grew = enters_more V x y number ready outcome enters in
      record {
        same = same;
        more = goes.more ++ grew.more;
        view = sym (append_assoc old.seen goes.more grew.more) ∙ (ap (λ (l : List Entry). l ++ grew.more) (goes.is ∙ sym found) ∙ sym (seen ∙ ap (λ (t : TreeModel E). t.journal) grew.is));
        found = later;
      }
