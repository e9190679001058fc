-- What closing a board leaves.
use Rattle.std.specs.Prelude.{◌≡◌, ◌≤◌, ◌+◌, ◌⊎◌, ◌↔◌, ℕ, List, ◌∷◌, ◌++◌, map, sum_by, All, Contains}
use Rattle.state_tree.specs.declared.work.Entry.{Entry}
use Rattle.shared_board.specs.Boards.{BoardMeaning, BoardPassMeaning}
use Rattle.shared_board.specs.Calls.{GoesOnFrom}

module _ {E : Type 0} where
  -- the numbers of these passes
  abbrev pub numbers_of : List (BoardPassMeaning E) → List ℕ
  numbers_of passes = map (λ pass. pass.number) passes

  -- all notes that these passes told were learnt by them
  abbrev pub NotesAreLearnt : List (BoardPassMeaning E) → Type 0
  NotesAreLearnt passes = sum_by (λ pass. pass.told) passes ≡ sum_by (λ pass. pass.learnt) passes

  -- the list without this pass, which stood in it
  pub record IsWithout (passes rest : List (BoardPassMeaning E)) (root : BoardPassMeaning E) : Type 0 where
    pub before : List (BoardPassMeaning E)
    pub after : List (BoardPassMeaning E)
    pub all : passes ≡ before ++ root ∷ after
    pub rest_is : rest ≡ before ++ after

  -- the pass took these passes back, which had taken none themselves: it has seen the longest of all views, and has all their numbers and counts of notes and the greatest found number
  pub record TakesBack (others : List (BoardPassMeaning E)) (before after : BoardPassMeaning E) : Type 0 where
    pub same : after ≡ record before { seen = after.seen; took = after.took; told = after.told; learnt = after.learnt; found = after.found }
    pub view : GoesOnFrom before after.seen
    pub views : All (λ other. GoesOnFrom other after.seen) others
    pub took : (number : ℕ) → Contains after.took number ↔ Contains (numbers_of others) number
    pub told : after.told ≡ before.told + sum_by (λ other. other.told) others
    pub learnt : after.learnt ≡ before.learnt + sum_by (λ other. other.learnt) others
    pub found : before.found ≤ after.found
    pub found_above : All (λ other. other.found ≤ after.found) others
    pub found_by_one : (after.found ≡ before.found) ⊎ Contains (map (λ other. other.found) others) after.found

  -- the journal of a board that was closed with these passes: it begins with the view of each and has no entry of that pass after it, and each entry since `open` is by one of them
  pub record IsClosedJournal (board : BoardMeaning E) (passes : List (BoardPassMeaning E)) (journal : List Entry) : Type 0 where
    pub views : All (λ pass. GoesOnFrom pass journal) passes
    pub since : List Entry
    pub grows : board.lock.journal ++ since ≡ journal
    pub by_them : All (λ entry. Contains (numbers_of passes) entry.pass) since

  -- the pass that is left of these passes: pass 0, which has seen the whole journal, with all counts of notes and the greatest found number
  pub record IsLastPass (board : BoardMeaning E) (passes : List (BoardPassMeaning E)) (journal : List Entry) (last : BoardPassMeaning E) : Type 0 where
    pub number : last.number ≡ 0
    pub seen : last.seen ≡ journal
    pub told : last.told ≡ sum_by (λ pass. pass.told) passes
    pub learnt : last.learnt ≡ sum_by (λ pass. pass.learnt) passes
    pub found : All (λ pass. pass.found ≤ last.found) passes
    pub found_by_one : Contains (map (λ pass. pass.found) passes) last.found
