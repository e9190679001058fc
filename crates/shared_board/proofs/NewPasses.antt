-- The passes of a new board, split off pass 0 one by one.
use Rattle.std.proofs.Common.{◌≡◌, ℕ, zero, suc, ◌+◌, ◌<◌, ◌≤◌, List, [], ◌∷◌, ◌++◌, length, set, get_or, refl, sym, subst, arith, All, HoldsAt}
use Rattle.std.proofs.lemmas.List.Elements.{All-nil, All-push, All-weaker}
use Rattle.repl_json.specs.declared.request.Ask.{Ask}
use Rattle.state_tree.specs.declared.work.Found.{Found}
use Rattle.state_tree.specs.declared.work.Entry.{Entry}
use Rattle.state_tree.specs.Value.{Value}
use Rattle.state_tree.specs.Server.{IsLegal}
use Rattle.turn_lock.specs.Meanings.{SharedMeaning}
use Rattle.shared_board.specs.declared.board_tree.TreeGround.{TreeGround}
use Rattle.shared_board.specs.Boards.{BoardMeaning, BoardPassMeaning, IsNewPass}
use Rattle.shared_board.specs.Opening.{IsSplit, AreSplit}

-- the number of a pass that was split off
abbrev pub IsBelow : ℕ → ℕ → Type 0
IsBelow bound n = (0 < n) × (n < bound)

module _ {E : Type 0} (lock : SharedMeaning Entry (TreeGround E)) where
  -- the same where the first one stands at another place
  abbrev pub SplitFrom : ℕ → ℕ → List (BoardPassMeaning E) → Type 0
  SplitFrom bound start passes = (i : ℕ) → i < length passes → HoldsAt (IsSplit lock bound (start + i)) passes i

  wider : (bound bound' number : ℕ) (pass : BoardPassMeaning E) → bound ≤ bound' → IsSplit lock bound number pass → IsSplit lock bound' number pass
  wider bound bound' number pass le s = record { own = s.own; number_is = s.number_is; seen = s.seen; gave = All-weaker (IsBelow bound) (IsBelow bound') (λ n b. (b.0, omega (arith, b.1))) pass.gave s.gave; took = s.took; notes = s.notes; found = s.found }

  wider_all : (bound bound' : ℕ) (passes : List (BoardPassMeaning E)) → bound ≤ bound' → AreSplit lock bound passes → AreSplit lock bound' passes
  wider_all bound bound' passes le all i lt d = wider bound bound' i (get_or passes i d) le (all i lt d)

  with_number : (bound a b : ℕ) (pass : BoardPassMeaning E) → a ≡ b → IsSplit lock bound a pass → IsSplit lock bound b pass
  with_number bound a b pass e s = subst (λ (n : ℕ). IsSplit lock bound n pass) e s

  from_zero : (bound : ℕ) (passes : List (BoardPassMeaning E)) → AreSplit lock bound passes → SplitFrom bound 0 passes
  from_zero bound passes all i lt d = with_number bound i (0 + i) (get_or passes i d) (omega arith) (all i lt d)

  to_zero : (bound : ℕ) (passes : List (BoardPassMeaning E)) → SplitFrom bound 0 passes → AreSplit lock bound passes
  to_zero bound passes all i lt d = with_number bound (0 + i) i (get_or passes i d) (omega arith) (all i lt d)

  at_end : (bound start : ℕ) (passes : List (BoardPassMeaning E)) (new : BoardPassMeaning E) → IsSplit lock bound (start + length passes) new → SplitFrom bound start passes → SplitFrom bound start (passes ++ new ∷ [])
  at_end bound start [] new s all zero lt d = s
  at_end bound start [] new s all (suc i) lt d = absurd (omega arith)
  at_end bound start (p ∷ ps) new s all zero lt d = all zero (omega arith) d
  at_end bound start (p ∷ ps) new s all (suc i) lt d =
      let tail : SplitFrom bound (suc start) ps = λ k l e. with_number bound (start + suc k) (suc start + k) (get_or ps k e) (omega arith) (all (suc k) (omega arith) e) in
      let last : IsSplit lock bound (suc start + length ps) new = with_number bound (start + suc (length ps)) (suc start + length ps) new (omega arith) s in
      with_number bound (suc start + i) (start + suc i) (get_or (ps ++ new ∷ []) i d) (omega arith) (at_end bound (suc start) ps new last tail i (omega arith) d)

  first_changed : (bound : ℕ) (x y : BoardPassMeaning E) (passes : List (BoardPassMeaning E)) → IsSplit lock bound 0 y → AreSplit lock bound (x ∷ passes) → AreSplit lock bound (y ∷ passes)
  first_changed bound x y passes s all zero lt d = s
  first_changed bound x y passes s all (suc i) lt d = all (suc i) lt d

  -- pass 0 gives the next number
  pub next_split : (n : ℕ) (passes : List (BoardPassMeaning E)) (x p q : BoardPassMeaning E) → length passes ≡ n → 1 ≤ n → x ≡ get_or passes 0 x
      → p ≡ record x { gave = x.gave ++ n ∷ [] } → q ≡ record x { number = n; gave = []; took = []; told = 0; learnt = 0 } → AreSplit lock n passes → AreSplit lock (n + 1) (set passes 0 p ++ q ∷ [])
  next_split n [] x p q len some at gives new all = absurd (omega arith)
  next_split n (y ∷ ys) x p q len some at gives new all =
      let root : IsSplit lock n 0 x = subst (IsSplit lock n 0) (sym at) (all 0 (omega arith) x) in
      let given : IsSplit lock (n + 1) 0 p = subst (IsSplit lock (n + 1) 0) (sym gives) (record { own = root.own; number_is = root.number_is; seen = root.seen; gave = All-push (IsBelow (n + 1)) x.gave n (All-weaker (IsBelow n) (IsBelow (n + 1)) (λ k b. (b.0, omega (arith, b.1))) x.gave root.gave) (omega arith, omega arith); took = root.took; notes = root.notes; found = root.found }) in
      let split : IsSplit lock (n + 1) (0 + length (p ∷ ys)) q = subst (IsSplit lock (n + 1) (0 + length (p ∷ ys))) (sym new) (record { own = root.own; number_is = omega arith; seen = root.seen; gave = All-nil (IsBelow (n + 1)); took = refl; notes = (refl, refl); found = root.found }) in
      let changed : AreSplit lock (n + 1) (p ∷ ys) = first_changed (n + 1) y p ys given (wider_all n (n + 1) (y ∷ ys) (omega arith) all) in
      to_zero (n + 1) ((p ∷ ys) ++ q ∷ []) (at_end (n + 1) 0 (p ∷ ys) q split (from_zero (n + 1) (p ∷ ys) changed))

module _ {E S : Type 0} (V : Ask → Found E S → Value E S) (board : BoardMeaning E) where
  -- all are new passes of the board
  pub all_new : (n : ℕ) (passes : List (BoardPassMeaning E)) → board.passes ≡ n → length passes ≡ n → IsLegal V board.lock.the_ground.book board.lock.journal → AreSplit board.lock n passes
      → (i : ℕ) → i < n → HoldsAt (IsNewPass V board i) passes i
  all_new n passes count len legal all i lt d =
      let s = all i (omega arith) d in
      record {
        own = record { lock = s.own; took = s.took; gave = subst (λ (k : ℕ). All (IsBelow k) (get_or passes i d).gave) (sym count) s.gave; legal = subst (IsLegal V board.lock.the_ground.book) (sym s.seen) legal };
        number = s.number_is;
        seen = s.seen;
        notes = s.notes;
        found = s.found;
      }
