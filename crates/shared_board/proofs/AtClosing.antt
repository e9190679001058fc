-- What closing a board meets on its way: pass 0 is taken out of the list, and then takes back the other passes.
use Rattle.std.proofs.Common.{◌≡◌, ℕ, ◌<◌, List, [], ◌++◌, sym, ap, ◌∙◌, subst, All, Contains}
use Rattle.repl_json.specs.declared.request.Ask.{Ask}
use Rattle.state_tree.specs.declared.work.Found.{Found}
use Rattle.state_tree.specs.declared.work.Entry.{Entry}
use Rattle.state_tree.specs.Value.{Value}
use Rattle.turn_lock.specs.Meanings.{SharedMeaning, IsPassOf}
use Rattle.shared_board.specs.declared.board_tree.TreeGround.{TreeGround}
use Rattle.shared_board.specs.Boards.{BoardMeaning, BoardPassMeaning, IsBoardPassOf}
use Rattle.shared_board.specs.Closing.{numbers_of, NotesAreLearnt, IsWithout, TakesBack}
use Rattle.shared_board.proofs.TakingBack.{IsPlainPassOf, plain_passes, All-without, numbers_taken, notes_taken}

module _ {E S : Type 0} (V : Ask → Found E S → Value E S) (board : BoardMeaning E) (lock : SharedMeaning Entry (TreeGround E)) (lock_is : lock ≡ board.lock) (passes rest : List (BoardPassMeaning E)) (root : BoardPassMeaning E) (own : All (IsBoardPassOf V board) passes) (without : IsWithout passes rest root) where
  root_and_rest : IsBoardPassOf V board root × All (IsBoardPassOf V board) (without.before ++ without.after)
  root_and_rest = All-without (IsBoardPassOf V board) without.before without.after root (subst (All (IsBoardPassOf V board)) without.all own)

  pub root_own : IsPassOf lock root × (root.took ≡ [])
  root_own = (subst (λ (l : SharedMeaning Entry (TreeGround E)). IsPassOf l root) (sym lock_is) root_and_rest.0.lock, root_and_rest.0.took)

  pub rest_plain : All (IsPlainPassOf lock) rest
  rest_plain = subst (λ (l : SharedMeaning Entry (TreeGround E)). All (IsPlainPassOf l) rest) (sym lock_is) (subst (All (IsPlainPassOf board.lock)) (sym without.rest_is) (plain_passes V board (without.before ++ without.after) root_and_rest.1))

  module _ (root' : BoardPassMeaning E) (taken : TakesBack rest root root') where
    pub taken_apart : TakesBack (without.before ++ without.after) root root'
    taken_apart = subst (λ (l : List (BoardPassMeaning E)). TakesBack l root root') without.rest_is taken

    pub own_after : IsPassOf lock root'
    own_after = (ap (λ k. k.table) taken.same ∙ root_own.0.0, ap (λ k. k.the_ground) taken.same ∙ root_own.0.1, ap (λ k. k.is_open) taken.same ∙ root_own.0.2)

    pub numbers_after : root.number ≡ 0 → ((n : ℕ) → n < board.passes → Contains (numbers_of passes) n) → (n : ℕ) → Contains root'.gave n → Contains root'.took n
    numbers_after zero_is there = numbers_taken board passes without.before without.after root root' without.all zero_is taken_apart root_and_rest.0.gave there

    pub notes_after : root.number ≡ 0 → NotesAreLearnt passes → root'.told ≡ root'.learnt
    notes_after zero_is notes = notes_taken board passes without.before without.after root root' without.all zero_is taken_apart notes
