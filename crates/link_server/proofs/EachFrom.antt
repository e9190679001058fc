-- What holds of each element of a list at its place, where the first one stands at any place.
use Rattle.std.proofs.Common.{◌≡◌, ℕ, zero, suc, ◌+◌, ◌-◌, ◌<◌, ◌≤◌, List, [], ◌∷◌, ◌++◌, length, map, reverse, get_or, sym, ap, ◌∙◌, subst, arith, All, Contains, HoldsAt}
use Rattle.std.proofs.lemmas.List.{get_or-reverse, length-reverse, reverse-reverse}
use Rattle.std.proofs.lemmas.List.Elements.{All-nil, All-cons}

module _ {A : Type 0} (P : ℕ → A → Type 0) where
  abbrev pub EachFrom : ℕ → List A → Type 0
  EachFrom start [] = Unit {0}
  EachFrom start (x ∷ xs) = P start x × EachFrom (suc start) xs

  moved : (m n : ℕ) (x : A) → m ≡ n → P m x → P n x
  moved m n x is p = subst (λ (k : ℕ). P k x) is p

  pub from_places : (start : ℕ) (xs : List A) → ((i : ℕ) → i < length xs → HoldsAt (P (start + i)) xs i) → EachFrom start xs
  from_places start [] each = tt
  from_places start (x ∷ xs) each = (
    moved (start + 0) start x (omega arith) (each 0 (omega arith) x),
    from_places (suc start) xs (λ i lt d. moved (start + suc i) (suc start + i) (get_or xs i d) (omega arith) (each (suc i) (omega arith) d)),
  )

  pub to_places : (start : ℕ) (xs : List A) → EachFrom start xs → (i : ℕ) → i < length xs → HoldsAt (P (start + i)) xs i
  to_places start [] each i lt d = absurd (omega arith)
  to_places start (x ∷ xs) each zero lt d = moved start (start + 0) x (omega arith) each.0
  to_places start (x ∷ xs) each (suc i) lt d = moved (suc start + i) (start + suc i) (get_or xs i d) (omega arith) (to_places (suc start) xs each.1 i (omega arith) d)

  pub from_first : (xs : List A) → ((i : ℕ) → i < length xs → HoldsAt (P i) xs i) → EachFrom 0 xs
  from_first xs each = from_places 0 xs (λ i lt d. moved i (0 + i) (get_or xs i d) (omega arith) (each i lt d))

  pub to_first : (xs : List A) → EachFrom 0 xs → (i : ℕ) → i < length xs → HoldsAt (P i) xs i
  to_first xs each i lt d = moved (0 + i) i (get_or xs i d) (omega arith) (to_places 0 xs each i lt d)

  pub each_front : (start : ℕ) (xs ys : List A) → EachFrom start (xs ++ ys) → EachFrom start xs
  each_front start [] ys each = tt
  each_front start (x ∷ xs) ys each = (each.0, each_front (suc start) xs ys each.1)

  pub each_back : (start : ℕ) (xs ys : List A) → EachFrom start (xs ++ ys) → EachFrom (start + length xs) ys
  each_back start [] ys each = subst (λ (k : ℕ). EachFrom k ys) (omega arith) each
  each_back start (x ∷ xs) ys each = subst (λ (k : ℕ). EachFrom k ys) (omega arith) (each_back (suc start) xs ys each.1)

  -- what does not depend on the place
  pub all_of : (Q : A → Type 0) (top start : ℕ) (xs : List A) → start + length xs ≤ top → ((k : ℕ) (x : A) → k < top → P k x → Q x) → EachFrom start xs → All Q xs
  all_of Q top start [] fits weaker each = All-nil Q
  all_of Q top start (x ∷ xs) fits weaker each = All-cons Q x xs (weaker start x (omega arith) each.0) (all_of Q top (suc start) xs (omega arith) weaker each.1)

module _ {A : Type 0} where
  -- the order plays no part
  pub All-reverse : (P : A → Type 0) (xs : List A) → All P xs → All P (reverse xs)
  All-reverse P xs all k d lt =
      let len : length (reverse xs) ≡ length xs = length-reverse xs in
      subst P (sym (get_or-reverse xs k d (omega arith))) (all (length xs - 1 - k) d (omega arith))

  pub All-reversed : (P : A → Type 0) (xs : List A) → All P (reverse xs) → All P xs
  All-reversed P xs all = subst (All P) (reverse-reverse xs) (All-reverse P (reverse xs) all)

  pub Contains-reversed : (xs : List A) (x : A) → Contains (reverse xs) x → Contains xs x
  Contains-reversed xs x (k, lt, is) =
      let len : length (reverse xs) ≡ length xs = length-reverse xs in
      (length xs - 1 - k, omega arith, sym (get_or-reverse xs k x (omega arith)) ∙ is)

  pub Contains-map : {B : Type 0} (f : A → B) (xs : List A) (x : A) → Contains xs x → Contains (map f xs) (f x)
  Contains-map f [] x (k, lt, is) = absurd (omega arith)
  Contains-map f (y ∷ xs) x (zero, lt, is) = (0, omega arith, ap f is)
  Contains-map f (y ∷ xs) x (suc k, lt, is) = let there = Contains-map f xs x (k, omega arith, is) in (suc there.0, omega (arith, there.1), there.2)
