-- The passes that come back to their board: those of the links that were served, and those that got none.
use Rattle.std.proofs.Common.{◌≡◌, ℕ, zero, suc, ◌+◌, ◌<◌, ◌≤◌, ⊎_elim, List, [], ◌∷◌, ◌++◌, length, map, reverse, sum_by, Option, refl, sym, ap, ◌∙◌, subst, arith, All, Contains}
use Rattle.std.proofs.lemmas.Bool.{cases_eq}
use Rattle.std.proofs.lemmas.List.{length-append, length-reverse, map-append}
use Rattle.std.proofs.lemmas.List.Elements.{All-nil, All-cons, All-append, All-weaker, Contains-append_left, Contains-append_right, Contains-append_cases}
use Rattle.std.proofs.lemmas.List.Sums.{sum_by-cons}
use Rattle.turn_lock.proofs.Lists.{Contains-head, Contains-cons}
use Rattle.repl_json.specs.declared.request.Ask.{Ask}
use Rattle.state_tree.specs.declared.work.Found.{Found}
use Rattle.state_tree.specs.Value.{Value}
use Rattle.shared_board.specs.Boards.{BoardMeaning, BoardPassMeaning, IsBoardPassOf, IsNewPass}
use Rattle.shared_board.specs.Closing.{numbers_of, NotesAreLearnt}
use Rattle.link_server.specs.Links.{Telling}
use Rattle.link_server.specs.Served.{AreNewPasses}
use Rattle.link_server.specs.declared.seat.Seat.{Seat}
use Rattle.link_server.proofs.EachFrom.{EachFrom, from_first, each_front, each_back, all_of, All-reversed, Contains-reversed, Contains-map}
use Rattle.link_server.proofs.Accepted.{ArePaired}

sum_none : {A : Type 0} (f : A → ℕ) (xs : List A) → All (λ x. f x ≡ 0) xs → sum_by f xs ≡ 0
sum_none f [] all = refl
sum_none f (x ∷ xs) all = let more = sum_by-cons f x xs in let here : f x ≡ 0 = all 0 x (omega arith) in let rest = sum_none f xs (λ k d lt. all (suc k) d (omega arith)) in omega arith

module _ {E S : Type 0} (V : Ask → Found E S → Value E S) (board : BoardMeaning E) where
  -- a pass of the board that told and learnt no note
  pub record IsBack (pass : BoardPassMeaning E) : Type 0 where
    pub own : IsBoardPassOf V board pass
    pub told : pass.told ≡ 0
    pub learnt : pass.learnt ≡ 0
    pub number : pass.number < board.passes

  new_is_back : (place : ℕ) (pass : BoardPassMeaning E) → place < board.passes → IsNewPass V board place pass → IsBack pass
  new_is_back place pass in' new = record { own = new.own; told = new.notes.0; learnt = new.notes.1; number = let is = new.number in omega arith }

  pub all_new_back : (start : ℕ) (passes : List (BoardPassMeaning E)) → start + length passes ≤ board.passes → EachFrom (IsNewPass V board) start passes → All IsBack passes
  all_new_back start passes fits each = all_of (IsNewPass V board) IsBack board.passes start passes fits new_is_back each

  -- their numbers are those of their places
  numbers_there : (start : ℕ) (passes : List (BoardPassMeaning E)) → EachFrom (IsNewPass V board) start passes → (n : ℕ) → start ≤ n → n < start + length passes → Contains (numbers_of passes) n
  numbers_there start [] each n from to = absurd (omega arith)
  numbers_there start (pass ∷ passes) each n from to =
      ⊎_elim
      (λ (e : start ≡ n). subst (λ (m : ℕ). Contains (pass.number ∷ numbers_of passes) m) (each.0.number ∙ e) (Contains-head pass.number (numbers_of passes)))
      (λ (e : start ≡ n → ⊥). Contains-cons pass.number (numbers_of passes) n (numbers_there (suc start) passes each.1 n (omega arith) (omega arith)))
      (cases_eq start n)

  numbers_turned : (passes : List (BoardPassMeaning E)) (n : ℕ) → Contains (numbers_of (reverse passes)) n → Contains (numbers_of passes) n
  numbers_turned passes n c =
      let some = mapped (reverse passes) c in
      subst (Contains (numbers_of passes)) some.2 (Contains-map (λ (p : BoardPassMeaning E). p.number) passes some.0 (Contains-reversed passes some.0 some.1))
    where
      mapped : (xs : List (BoardPassMeaning E)) → Contains (numbers_of xs) n → (p : BoardPassMeaning E) × Contains xs p × (p.number ≡ n)
      mapped [] (k, lt, is) = absurd (omega arith)
      mapped (x ∷ xs) (zero, lt, is) = (x, Contains-head x xs, is)
      mapped (x ∷ xs) (suc k, lt, is) = let there = mapped xs (k, omega arith, is) in (there.0, Contains-cons x xs there.0 there.1, there.2)

  module _ {W I O : Type 0} (tell : Telling I O) where
    -- the passes of seats, in their order
    abbrev pub seated : List (Seat W I O E S) → List (BoardPassMeaning E)
    seated seats = map (λ seat. seat.pass) seats

    pub seated_numbers : (links : Option (List (List ℕ))) (passes : List (BoardPassMeaning E)) (seats : List (Seat W I O E S)) → ArePaired V board tell links passes seats → numbers_of (seated seats) ≡ numbers_of passes
    seated_numbers links [] [] paired = refl
    seated_numbers links [] (seat ∷ seats) paired = absurd paired
    seated_numbers links (pass ∷ passes) [] paired = absurd paired
    seated_numbers links (pass ∷ passes) (seat ∷ seats) paired =
        let same : seat.pass.number ≡ pass.number = ap (λ (p : BoardPassMeaning E). p.number) paired.3.same.same in
        let rest = seated_numbers paired.1 passes seats paired.4 in
        λ i. same i ∷ rest i

    pub paired_length : (links : Option (List (List ℕ))) (passes : List (BoardPassMeaning E)) (seats : List (Seat W I O E S)) → ArePaired V board tell links passes seats → length seats ≡ length passes
    paired_length links [] [] paired = refl
    paired_length links [] (seat ∷ seats) paired = absurd paired
    paired_length links (pass ∷ passes) [] paired = absurd paired
    paired_length links (pass ∷ passes) (seat ∷ seats) paired = ap suc (paired_length paired.1 passes seats paired.4)

    seated_back : (start : ℕ) (links : Option (List (List ℕ))) (passes : List (BoardPassMeaning E)) (seats : List (Seat W I O E S)) → start + length passes ≤ board.passes
        → EachFrom (IsNewPass V board) start passes → ArePaired V board tell links passes seats → All IsBack (seated seats)
    seated_back start links [] [] fits each paired = All-nil IsBack
    seated_back start links [] (seat ∷ seats) fits each paired = absurd paired
    seated_back start links (pass ∷ passes) [] fits each paired = absurd paired
    seated_back start links (pass ∷ passes) (seat ∷ seats) fits each paired =
        let s = paired.3 in
        let same = s.same.same in
        let was = new_is_back start pass (omega arith) each.0 in
        All-cons IsBack seat.pass (seated seats) (record {
          own = s.own;
          told = ap (λ (p : BoardPassMeaning E). p.told) same ∙ was.told;
          learnt = ap (λ (p : BoardPassMeaning E). p.learnt) same ∙ was.learnt;
          number = let is : seat.pass.number ≡ pass.number = ap (λ (p : BoardPassMeaning E). p.number) same in let small = was.number in omega arith;
        }) (seated_back (suc start) paired.1 passes seats (omega arith) each.1 paired.4)

    -- the passes that waited, the first ones of which got links
    module _ (waited left passes : List (BoardPassMeaning E)) (seats : List (Seat W I O E S)) (links : Option (List (List ℕ)))
        (new : AreNewPasses V board waited) (is : reverse waited ≡ passes ++ reverse left) (paired : ArePaired V board tell links passes seats) where
      pub each_new : EachFrom (IsNewPass V board) 0 (passes ++ reverse left)
      each_new = subst (EachFrom (IsNewPass V board) 0) is
          (from_first (IsNewPass V board) (reverse waited) (λ i lt. let a = length-reverse waited in let b = new.count in new.each i (omega arith)))

      pub counted_back : length passes + length left ≡ board.passes
      counted_back =
          let a = length-reverse waited in let b = new.count in let c = ap length is ∙ length-append passes (reverse left) in let d = length-reverse left in
          omega arith

      pub first_new : EachFrom (IsNewPass V board) 0 passes
      first_new = each_front (IsNewPass V board) 0 passes (reverse left) each_new

      pub rest_new : EachFrom (IsNewPass V board) (length passes) (reverse left)
      rest_new = subst (λ (k : ℕ). EachFrom (IsNewPass V board) k (reverse left)) (omega arith) (each_back (IsNewPass V board) 0 passes (reverse left) each_new)

      pub all_back : All IsBack (seated seats ++ left)
      all_back = All-append IsBack (seated seats) left
          (seated_back 0 links passes seats (let c = counted_back in omega arith) first_new paired)
          (All-reversed IsBack left (all_new_back (length passes) (reverse left) (let c = counted_back in let d = length-reverse left in omega arith) rest_new))

      pub own_back : All (IsBoardPassOf V board) (seated seats ++ left)
      own_back = All-weaker IsBack (IsBoardPassOf V board) (λ p b. b.own) (seated seats ++ left) all_back

      pub notes_back : NotesAreLearnt (seated seats ++ left)
      notes_back =
          sum_none (λ (p : BoardPassMeaning E). p.told) (seated seats ++ left) (All-weaker IsBack (λ p. p.told ≡ 0) (λ p b. b.told) (seated seats ++ left) all_back)
          ∙ sym (sum_none (λ (p : BoardPassMeaning E). p.learnt) (seated seats ++ left) (All-weaker IsBack (λ p. p.learnt ≡ 0) (λ p b. b.learnt) (seated seats ++ left) all_back))

      pub numbers_back : (n : ℕ) → n < board.passes → Contains (numbers_of (seated seats ++ left)) n
      numbers_back n in' =
          let count = counted_back in
          let turned = length-reverse left in
          let sum = length-append passes (reverse left) in
          let there : Contains (numbers_of (passes ++ reverse left)) n = numbers_there 0 (passes ++ reverse left) each_new n (omega arith) (omega arith) in
          let apart : Contains (numbers_of passes ++ numbers_of (reverse left)) n = subst (λ (ns : List ℕ). Contains ns n) (map-append (λ (p : BoardPassMeaning E). p.number) passes (reverse left)) there in
          subst (λ (ns : List ℕ). Contains ns n) (sym (map-append (λ (p : BoardPassMeaning E). p.number) (seated seats) left))
          (⊎_elim
          (λ (first : Contains (numbers_of passes) n). Contains-append_left (numbers_of (seated seats)) (numbers_of left) n (subst (λ (ns : List ℕ). Contains ns n) (sym (seated_numbers links passes seats paired)) first))
          (λ (rest : Contains (numbers_of (reverse left)) n). Contains-append_right (numbers_of (seated seats)) (numbers_of left) n (numbers_turned left n rest))
          (Contains-append_cases (numbers_of passes) (numbers_of (reverse left)) n apart))
