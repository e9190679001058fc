-- Passes that are taken back.
use Rattle.std.proofs.Common.{◌≡◌, ℕ, zero, suc, ◌+◌, ◌<◌, ◌≤◌, ◌⊎◌, ◌↔◌, max, nat_lt, Bool, true, false, take, drop, List, [], ◌∷◌, ◌++◌, length, map, get_or, refl, sym, ap, ◌∙◌, subst, inl, inr, ⊎_elim, arith, sum_by, All, Contains}
use Rattle.std.proofs.lemmas.Bool.{ltb-true, ltb-false}
use Rattle.std.proofs.lemmas.List.{append_assoc, map-append}
use Rattle.std.proofs.lemmas.List.Sums.{sum_by-append, sum_by-cons}
use Rattle.std.proofs.lemmas.List.Elements.{All-nil, All-cons, All-head, All-tail, All-append, All-weaker, All-contains, Contains-get_or, Contains-append_left, Contains-append_right, Contains-append_cases}
use Rattle.turn_lock.specs.Journals.{DifferByOthers, ExtendsByOthers, longer}
use Rattle.turn_lock.specs.Meanings.{SharedMeaning, IsPassOf}
use Rattle.turn_lock.proofs.Extending.{goes_all, goes_for}
use Rattle.turn_lock.proofs.Lists.{All-front, All-back, none_in_nil, Contains-head, Contains-cons, Contains-cons_cases}
use Rattle.repl_json.specs.declared.request.Ask.{Ask}
use Rattle.state_tree.specs.declared.work.Found.{Found}
use Rattle.state_tree.specs.declared.work.Entry.{Entry}
use Rattle.state_tree.specs.Value.{Value}
use Rattle.shared_board.specs.declared.board_tree.TreeGround.{TreeGround}
use Rattle.shared_board.specs.Boards.{BoardMeaning, BoardPassMeaning, IsBoardPassOf, pass_of}
use Rattle.shared_board.specs.Calls.{GoesOnFrom}
use Rattle.shared_board.specs.Closing.{numbers_of, NotesAreLearnt, TakesBack, IsClosedJournal, IsLastPass}
use Rattle.shared_board.proofs.Journals.{goes_on, both_begin}

-- max
above_right : (a b : ℕ) → b ≤ max a b
above_right a b = omega arith

one_of_two : (a b : ℕ) → (max a b ≡ a) ⊎ (max a b ≡ b)
one_of_two a b = cases (nat_lt a b) refl
  where
    cases : (c : Bool) → nat_lt a b ≡ c → (max a b ≡ a) ⊎ (max a b ≡ b)
    cases true e = let lt : a < b = ltb-true _ _ e in inr (omega arith)
    cases false e = let le : b ≤ a = ltb-false _ _ e in inl (omega arith)

module _ {A : Type 0} where
  -- an element anywhere
  pub All-middle : (P : A → Type 0) (xs ys : List A) (x : A) → P x → All P (xs ++ ys) → All P (xs ++ x ∷ ys)
  All-middle P xs ys x p all = All-append P xs (x ∷ ys) (All-front P xs ys all) (All-cons P x ys p (All-back P xs ys all))

  pub All-without : (P : A → Type 0) (xs ys : List A) (x : A) → All P (xs ++ x ∷ ys) → P x × All P (xs ++ ys)
  All-without P xs ys x all = let back = All-back P xs (x ∷ ys) all in (All-head P x ys back, All-append P xs ys (All-front P xs (x ∷ ys) all) (All-tail P x ys back))

  -- an element at a place, and what stands before and behind it
  pub split_place : (xs : List A) (i : ℕ) (x : A) → i < length xs → x ≡ get_or xs i x → xs ≡ take i xs ++ x ∷ drop (suc i) xs
  split_place [] i x lt is = absurd (omega arith)
  split_place (y ∷ xs) zero x lt is = ap (λ z. z ∷ xs) (sym is)
  split_place (y ∷ xs) (suc i) x lt is = ap (λ l. y ∷ l) (split_place xs i x (omega arith) is)

  pub Contains-middle : (xs ys : List A) (x y : A) → Contains (xs ++ ys) y → Contains (xs ++ x ∷ ys) y
  Contains-middle xs ys x y h = ⊎_elim (λ a. Contains-append_left xs (x ∷ ys) y a) (λ b. Contains-append_right xs (x ∷ ys) y (Contains-cons x ys y b)) (Contains-append_cases xs ys y h)

  pub Contains-here : (xs ys : List A) (x : A) → Contains (xs ++ x ∷ ys) x
  Contains-here xs ys x = Contains-append_right xs (x ∷ ys) x (Contains-head x ys)

  pub sum_by-middle : (f : A → ℕ) (xs ys : List A) (x : A) → sum_by f (xs ++ x ∷ ys) ≡ f x + sum_by f (xs ++ ys)
  sum_by-middle f xs ys x = let a = sum_by-append f xs (x ∷ ys) in let b = sum_by-cons f x ys in let c = sum_by-append f xs ys in omega arith

  pub split_last : (P : A → Type 0) (all xs : List A) (p : A) → all ≡ xs ++ p ∷ [] → All P all → All P xs × P p
  split_last P all xs p is h = let t : All P (xs ++ p ∷ []) = subst (All P) is h in (All-front P xs (p ∷ []) t, All-contains P (xs ++ p ∷ []) p t (Contains-here xs [] p))

  pub shift_done : (first all xs done : List A) (p : A) → first ≡ all ++ done → all ≡ xs ++ p ∷ [] → first ≡ xs ++ (p ∷ done)
  shift_done first all xs done p e is = e ∙ (ap (λ l. l ++ done) is ∙ append_assoc xs (p ∷ []) done)

module _ {E : Type 0} where
  -- a pass of this lock that took none back
  abbrev pub IsPlainPassOf : SharedMeaning Entry (TreeGround E) → BoardPassMeaning E → Type 0
  IsPlainPassOf lock pass = IsPassOf lock pass × (pass.took ≡ [])

  -- the passes of a board are such passes
  pub plain_passes : {S : Type 0} (V : Ask → Found E S → Value E S) (board : BoardMeaning E) (passes : List (BoardPassMeaning E)) → All (IsBoardPassOf V board) passes → All (IsPlainPassOf board.lock) passes
  plain_passes V board passes own = All-weaker (IsBoardPassOf V board) (IsPlainPassOf board.lock) (λ p o. (o.lock, o.took)) passes own

  -- none was taken back yet
  pub takes_none : (before : BoardPassMeaning E) → before.took ≡ [] → TakesBack [] before before
  takes_none before none = record {
    same = refl;
    view = goes_all pass_of before.seen before.seen (before.number ∷ before.took) refl;
    views = All-nil (λ other. GoesOnFrom other before.seen);
    took = λ n. (λ h. absurd (none_in_nil n (subst (λ (l : List ℕ). Contains l n) none h)), λ h. absurd (none_in_nil n h));
    told = omega arith;
    learnt = omega arith;
    found = omega arith;
    found_above = All-nil (λ other. other.found ≤ before.found);
    found_by_one = inl refl;
  }

  number_in : (passes : List (BoardPassMeaning E)) (pass : BoardPassMeaning E) → Contains passes pass → Contains (numbers_of passes) pass.number
  number_in [] pass c = absurd (none_in_nil pass c)
  number_in (x ∷ passes) pass c = ⊎_elim
      (λ (e : pass ≡ x). subst (λ (m : ℕ). Contains (x.number ∷ numbers_of passes) m) (sym (ap (λ k. k.number) e)) (Contains-head x.number (numbers_of passes)))
      (λ (b : Contains passes pass). Contains-cons x.number (numbers_of passes) pass.number (number_in passes pass b))
      (Contains-cons_cases x passes pass c)

  -- the own numbers of each pass that was taken back are own numbers of the pass that took it
  own_of_done : (done : List (BoardPassMeaning E)) (number : ℕ) (took : List ℕ) (q : BoardPassMeaning E) → ((n : ℕ) → Contains took n ↔ Contains (numbers_of done) n) → Contains done q → q.took ≡ [] → (n : ℕ) → Contains (q.number ∷ q.took) n → Contains (number ∷ took) n
  own_of_done done number took q both there none n h =
      let one : n ≡ q.number = ⊎_elim (λ (e : n ≡ q.number). e) (λ (b : Contains q.took n). absurd (none_in_nil n (subst (λ (l : List ℕ). Contains l n) none b))) (Contains-cons_cases q.number q.took n h) in
      Contains-cons number took n ((both n).1 (subst (Contains (numbers_of done)) (sym one) (number_in done q there)))

  -- one more is taken back
  pub takes_more : (done : List (BoardPassMeaning E)) (before mid after p : BoardPassMeaning E) → All (λ q. q.took ≡ []) done → p.took ≡ []
      → after ≡ record mid { seen = longer mid.seen p.seen; took = mid.took ++ (p.number ∷ p.took); told = mid.told + p.told; learnt = mid.learnt + p.learnt; found = max mid.found p.found }
      → DifferByOthers pass_of mid.seen (mid.number ∷ mid.took) p.seen (p.number ∷ p.took)
      → before.took ≡ [] → TakesBack done before mid → TakesBack (p ∷ done) before after
  takes_more done before mid after p plain none is differ fresh t =
      subst (TakesBack (p ∷ done) before) (sym is) (record {
        same = (λ i. record (t.same i) { seen = longer mid.seen p.seen; took = mid.took ++ (p.number ∷ p.took); told = mid.told + p.told; learnt = mid.learnt + p.learnt; found = max mid.found p.found });
        view = goes_on pass_of before.seen mid.seen (longer mid.seen p.seen) (before.number ∷ before.took) t.view (goes_for pass_of mid.seen (longer mid.seen p.seen) (mid.number ∷ mid.took) (before.number ∷ before.took) own_before begins.0);
        views = All-cons (λ q. GoesOnFrom q (longer mid.seen p.seen)) p done begins.1 (views_more done plain t.views (λ q there. there));
        took = λ n. (took_in n, in_took n);
        told = omega (arith, sum_by-cons (λ (q : BoardPassMeaning E). q.told) p done, t.told);
        learnt = omega (arith, sum_by-cons (λ (q : BoardPassMeaning E). q.learnt) p done, t.learnt);
        found = omega (arith, t.found);
        found_above = All-cons (λ q. q.found ≤ max mid.found p.found) p done (above_right mid.found p.found) (All-weaker (λ q. q.found ≤ mid.found) (λ q. q.found ≤ max mid.found p.found) (λ q le. omega arith) done t.found_above);
        found_by_one = one_found;
      })
    where
      begins : ExtendsByOthers pass_of mid.seen (longer mid.seen p.seen) (mid.number ∷ mid.took) × ExtendsByOthers pass_of p.seen (longer mid.seen p.seen) (p.number ∷ p.took)
      begins = both_begin pass_of mid.seen p.seen (mid.number ∷ mid.took) (p.number ∷ p.took) differ

      number_stays : mid.number ≡ before.number
      number_stays = ap (λ k. k.number) t.same

      own_before : (n : ℕ) → Contains (before.number ∷ before.took) n → Contains (mid.number ∷ mid.took) n
      own_before n h = ⊎_elim
          (λ (e : n ≡ before.number). subst (λ (m : ℕ). Contains (mid.number ∷ mid.took) m) (number_stays ∙ sym e) (Contains-head mid.number mid.took))
          (λ (b : Contains before.took n). absurd (none_in_nil n (subst (λ (l : List ℕ). Contains l n) fresh b)))
          (Contains-cons_cases before.number before.took n h)

      views_more : (l : List (BoardPassMeaning E)) → All (λ q. q.took ≡ []) l → All (λ q. GoesOnFrom q mid.seen) l → ((q : BoardPassMeaning E) → Contains l q → Contains done q) → All (λ q. GoesOnFrom q (longer mid.seen p.seen)) l
      views_more l plain_l seen_l inside k d lt =
          let q = get_or l k d in
          let there : Contains l q = Contains-get_or l k d lt in
          goes_on pass_of q.seen mid.seen (longer mid.seen p.seen) (q.number ∷ q.took) (seen_l k d lt) (goes_for pass_of mid.seen (longer mid.seen p.seen) (mid.number ∷ mid.took) (q.number ∷ q.took) (own_of_done done mid.number mid.took q t.took (inside q there) (plain_l k d lt)) begins.0)

      took_in : (n : ℕ) → Contains (mid.took ++ (p.number ∷ p.took)) n → Contains (p.number ∷ numbers_of done) n
      took_in n h = ⊎_elim
          (λ (a : Contains mid.took n). Contains-cons p.number (numbers_of done) n ((t.took n).0 a))
          (λ (b : Contains (p.number ∷ p.took) n). ⊎_elim
          (λ (e : n ≡ p.number). subst (Contains (p.number ∷ numbers_of done)) (sym e) (Contains-head p.number (numbers_of done)))
          (λ (c : Contains p.took n). absurd (none_in_nil n (subst (λ (l : List ℕ). Contains l n) none c)))
          (Contains-cons_cases p.number p.took n b))
          (Contains-append_cases mid.took (p.number ∷ p.took) n h)

      in_took : (n : ℕ) → Contains (p.number ∷ numbers_of done) n → Contains (mid.took ++ (p.number ∷ p.took)) n
      in_took n h = ⊎_elim
          (λ (e : n ≡ p.number). Contains-append_right mid.took (p.number ∷ p.took) n (subst (Contains (p.number ∷ p.took)) (sym e) (Contains-head p.number p.took)))
          (λ (b : Contains (numbers_of done) n). Contains-append_left mid.took (p.number ∷ p.took) n ((t.took n).1 b))
          (Contains-cons_cases p.number (numbers_of done) n h)

      one_found : (max mid.found p.found ≡ before.found) ⊎ Contains (p.found ∷ map (λ (q : BoardPassMeaning E). q.found) done) (max mid.found p.found)
      one_found = ⊎_elim
          (λ (a : max mid.found p.found ≡ mid.found). ⊎_elim
          (λ (b : mid.found ≡ before.found). inl (a ∙ b))
          (λ (b : Contains (map (λ (q : BoardPassMeaning E). q.found) done) mid.found). inr (Contains-cons p.found (map (λ (q : BoardPassMeaning E). q.found) done) (max mid.found p.found) (subst (Contains (map (λ (q : BoardPassMeaning E). q.found) done)) (sym a) b)))
          t.found_by_one)
          (λ (b : max mid.found p.found ≡ p.found). inr (subst (Contains (p.found ∷ map (λ (q : BoardPassMeaning E). q.found) done)) (sym b) (Contains-head p.found (map (λ (q : BoardPassMeaning E). q.found) done))))
          (one_of_two mid.found p.found)

  -- what is read of the passes in the middle of a list
  mapped_middle : {B : Type 0} (f : BoardPassMeaning E → B) (xs ys : List (BoardPassMeaning E)) (x : BoardPassMeaning E) (b : B) → Contains (map f (xs ++ ys)) b → Contains (map f (xs ++ x ∷ ys)) b
  mapped_middle {B} f xs ys x b h =
      subst (λ (l : List B). Contains l b) (sym (map-append f xs (x ∷ ys)))
      (Contains-middle (map f xs) (map f ys) (f x) b (subst (λ (l : List B). Contains l b) (map-append f xs ys) h))

  mapped_here : {B : Type 0} (f : BoardPassMeaning E → B) (xs ys : List (BoardPassMeaning E)) (x : BoardPassMeaning E) → Contains (map f (xs ++ x ∷ ys)) (f x)
  mapped_here {B} f xs ys x = subst (λ (l : List B). Contains l (f x)) (sym (map-append f xs (x ∷ ys))) (Contains-here (map f xs) (map f ys) (f x))

  mapped_cases : (xs ys : List (BoardPassMeaning E)) (x : BoardPassMeaning E) (n : ℕ) → Contains (numbers_of (xs ++ x ∷ ys)) n → (n ≡ x.number) ⊎ Contains (numbers_of (xs ++ ys)) n
  mapped_cases xs ys x n h =
      let both : Contains (numbers_of xs ++ (x.number ∷ numbers_of ys)) n = subst (λ (l : List ℕ). Contains l n) (map-append (λ (q : BoardPassMeaning E). q.number) xs (x ∷ ys)) h in
      let back : Contains (numbers_of xs ++ numbers_of ys) n → Contains (numbers_of (xs ++ ys)) n = subst (λ (l : List ℕ). Contains l n) (sym (map-append (λ (q : BoardPassMeaning E). q.number) xs ys)) in
      ⊎_elim
      (λ (a : Contains (numbers_of xs) n). inr (back (Contains-append_left (numbers_of xs) (numbers_of ys) n a)))
      (λ (b : Contains (x.number ∷ numbers_of ys) n). ⊎_elim
      (λ (e : n ≡ x.number). inl e)
      (λ (c : Contains (numbers_of ys) n). inr (back (Contains-append_right (numbers_of xs) (numbers_of ys) n c)))
      (Contains-cons_cases x.number (numbers_of ys) n b))
      (Contains-append_cases (numbers_of xs) (x.number ∷ numbers_of ys) n both)

  -- pass 0 stood among the passes, and took the others back
  module _ (board : BoardMeaning E) (passes before after : List (BoardPassMeaning E)) (root root' : BoardPassMeaning E) (all : passes ≡ before ++ root ∷ after) (zero_is : root.number ≡ 0) (taken : TakesBack (before ++ after) root root') where
    pub numbers_taken : All (λ n. (0 < n) × (n < board.passes)) root.gave → ((n : ℕ) → n < board.passes → Contains (numbers_of passes) n) → (n : ℕ) → Contains root'.gave n → Contains root'.took n
    numbers_taken gave there n h =
        let given : Contains root.gave n = subst (λ (l : List ℕ). Contains l n) (ap (λ k. k.gave) taken.same) h in
        let b : (0 < n) × (n < board.passes) = All-contains (λ m. (0 < m) × (m < board.passes)) root.gave n gave given in
        ⊎_elim
        (λ (e : n ≡ root.number). let none : n ≡ 0 = e ∙ zero_is in absurd (omega (arith, b.0)))
        (λ (c : Contains (numbers_of (before ++ after)) n). (taken.took n).1 c)
        (mapped_cases before after root n (subst (λ (l : List (BoardPassMeaning E)). Contains (numbers_of l) n) all (there n b.1)))

    pub notes_taken : NotesAreLearnt passes → root'.told ≡ root'.learnt
    notes_taken notes =
        let a : sum_by (λ (q : BoardPassMeaning E). q.told) passes ≡ root.told + sum_by (λ (q : BoardPassMeaning E). q.told) (before ++ after) = ap (sum_by (λ (q : BoardPassMeaning E). q.told)) all ∙ sum_by-middle (λ (q : BoardPassMeaning E). q.told) before after root in
        let b : sum_by (λ (q : BoardPassMeaning E). q.learnt) passes ≡ root.learnt + sum_by (λ (q : BoardPassMeaning E). q.learnt) (before ++ after) = ap (sum_by (λ (q : BoardPassMeaning E). q.learnt)) all ∙ sum_by-middle (λ (q : BoardPassMeaning E). q.learnt) before after root in
        omega (arith, taken.told, taken.learnt)

    pub closed_journal : (journal : List Entry) → journal ≡ root'.seen → ((since : List Entry) × (board.lock.journal ++ since ≡ root'.seen) × All (λ e. Contains (root'.number ∷ root'.took) (pass_of e)) since) → IsClosedJournal board passes journal
    closed_journal journal is made = record {
      views = subst (λ (l : List Entry). All (λ q. GoesOnFrom q l) passes) (sym is) (subst (All (λ q. GoesOnFrom q root'.seen)) (sym all) (All-middle (λ q. GoesOnFrom q root'.seen) before after root taken.view taken.views));
      since = made.0;
      grows = made.1 ∙ sym is;
      by_them = All-weaker (λ e. Contains (root'.number ∷ root'.took) (pass_of e)) (λ e. Contains (numbers_of passes) e.pass) (λ e c. by_one (pass_of e) c) made.0 made.2;
    }
      where
        by_one : (n : ℕ) → Contains (root'.number ∷ root'.took) n → Contains (numbers_of passes) n
        by_one n c = subst (λ (l : List (BoardPassMeaning E)). Contains (numbers_of l) n) (sym all) (⊎_elim
            (λ (e : n ≡ root'.number). subst (Contains (numbers_of (before ++ root ∷ after))) (sym (e ∙ ap (λ k. k.number) taken.same)) (mapped_here (λ (q : BoardPassMeaning E). q.number) before after root))
            (λ (b : Contains root'.took n). mapped_middle (λ (q : BoardPassMeaning E). q.number) before after root n ((taken.took n).0 b))
            (Contains-cons_cases root'.number root'.took n c))

    pub last_pass : (journal : List Entry) (last : BoardPassMeaning E) → journal ≡ root'.seen → last ≡ record root' { is_open = false } → IsLastPass board passes journal last
    last_pass journal last is same = subst (IsLastPass board passes journal) (sym same) (record {
      number = ap (λ k. k.number) taken.same ∙ zero_is;
      seen = sym is;
      told = taken.told ∙ sym (ap (sum_by (λ (q : BoardPassMeaning E). q.told)) all ∙ sum_by-middle (λ (q : BoardPassMeaning E). q.told) before after root);
      learnt = taken.learnt ∙ sym (ap (sum_by (λ (q : BoardPassMeaning E). q.learnt)) all ∙ sum_by-middle (λ (q : BoardPassMeaning E). q.learnt) before after root);
      found = subst (All (λ q. q.found ≤ root'.found)) (sym all) (All-middle (λ q. q.found ≤ root'.found) before after root taken.found taken.found_above);
      found_by_one = subst (λ (l : List (BoardPassMeaning E)). Contains (map (λ (q : BoardPassMeaning E). q.found) l) root'.found) (sym all) (⊎_elim
          (λ (e : root'.found ≡ root.found). subst (Contains (map (λ (q : BoardPassMeaning E). q.found) (before ++ root ∷ after))) (sym e) (mapped_here (λ (q : BoardPassMeaning E). q.found) before after root))
          (λ (c : Contains (map (λ (q : BoardPassMeaning E). q.found) (before ++ after)) root'.found). mapped_middle (λ (q : BoardPassMeaning E). q.found) before after root root'.found c)
          taken.found_by_one);
    })
