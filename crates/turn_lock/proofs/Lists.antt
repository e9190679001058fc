-- Lists of entries, of numbers and of views.
use Rattle.std.proofs.Common.{◌≡◌, ℕ, zero, suc, ◌+◌, ◌<◌, ◌≤◌, ◌≢◌, ◌⊎◌, Bool, true, false, List, [], ◌∷◌, ◌++◌, length, set, refl, sym, ap, ◌∙◌, subst, inl, inr, ⊎_elim, arith, eqb, eq-eqb, ne_eqb, if◌then◌else◌, length-append, sum_by, All, Contains}
use Rattle.std.proofs.lemmas.List.{get_or_append_left}
use Rattle.std.proofs.lemmas.List.Sums.{sum_by-cons}
use mathlib.Core.Option.{some, some-injective, some-ne-none}
use mathlib.Core.Logic.{dite}
use native.Mathlib.Decide.{ℕ_discrete}
use lib.ListN.{get_elem?}
use Rattle.atomic_table.proofs.Lists.{at_set}
use Rattle.turn_lock.specs.LockRule.{count_below}

-- a function changed at one place
abbrev pub put : {A : Type 0} → (ℕ → A) → ℕ → A → ℕ → A
put f n a k = if eqb k n then a else f k

pub put_here : {A : Type 0} (f : ℕ → A) (n : ℕ) (a : A) → put f n a n ≡ a
put_here f n a = rw (eq-eqb n n refl)

pub put_else : {A : Type 0} (f : ℕ → A) (n : ℕ) (a : A) (k : ℕ) → k ≢ n → put f n a k ≡ f k
put_else f n a k ne = rw (ne_eqb k n ne)

-- at most n numbers below n are marked
pub count_le : (n : ℕ) (marked : ℕ → Bool) → count_below n marked ≤ n
unfolding count_below
count_le zero marked = omega arith
count_le (suc n) marked = let h = count_le n marked in one (marked n) h
  where
    one : (b : Bool) → count_below n marked ≤ n → (if b then 1 else 0) + count_below n marked ≤ suc n
    one true h = omega arith
    one false h = omega arith

-- a number from n on is not counted
count_out : (n : ℕ) (marked : ℕ → Bool) (m : ℕ) → n ≤ m → count_below n (put marked m true) ≡ count_below n marked
unfolding count_below
count_out zero marked m h = refl
count_out (suc n) marked m h = ap (λ (b : Bool). (if b then 1 else 0) + count_below n (put marked m true)) (put_else marked m true n (λ e. omega arith)) ∙ ap (λ (k : ℕ). (if marked n then 1 else 0) + k) (count_out n marked m (omega arith))

-- one more number below n is marked
pub count_put : (n : ℕ) (marked : ℕ → Bool) (m : ℕ) → m < n → marked m ≡ false → count_below n (put marked m true) ≡ count_below n marked + 1
unfolding count_below
count_put zero marked m h e = absurd (omega arith)
count_put (suc n) marked m h e = dite (ℕ_discrete n m) here (λ ne. there ne (count_put n marked m (omega arith) e))
  where
    here : n ≡ m → count_below (suc n) (put marked m true) ≡ count_below (suc n) marked + 1
    here is =
        let a : put marked m true n ≡ true = subst (λ (k : ℕ). put marked m true k ≡ true) (sym is) (put_here marked m true) in
        let b : marked n ≡ false = ap marked is ∙ e in
        let c : count_below n (put marked m true) ≡ count_below n marked = count_out n marked m (omega arith) in
        ap (λ (x : Bool). (if x then 1 else 0) + count_below n (put marked m true)) a
        ∙ (ap (λ (k : ℕ). 1 + k) c ∙ (omega arith ∙ ap (λ (x : Bool). (if x then 1 else 0) + count_below n marked + 1) (sym b)))

    there : n ≢ m → count_below n (put marked m true) ≡ count_below n marked + 1 → count_below (suc n) (put marked m true) ≡ count_below (suc n) marked + 1
    there ne c =
        let a : put marked m true n ≡ marked n = put_else marked m true n ne in
        ap (λ (x : Bool). (if x then 1 else 0) + count_below n (put marked m true)) a ∙ (ap (λ (k : ℕ). (if marked n then 1 else 0) + k) c ∙ omega arith)

module _ {A : Type 0} (P : A → Type 0) where
  -- what holds of each element holds of each in a part
  pub All-front : (xs ys : List A) → All P (xs ++ ys) → All P xs
  All-front xs ys all k d lt = subst P (get_or_append_left xs ys d k lt) (all k d (omega (arith, length-append xs ys)))

  pub All-back : (xs ys : List A) → All P (xs ++ ys) → All P ys
  All-back [] ys all = all
  All-back (x ∷ xs) ys all = All-back xs ys (λ k d lt. all (suc k) d (omega arith))

  -- no element satisfies a fact and its contrary
  pub no_elements : (xs : List A) → All P xs → All (λ a. ¬ P a) xs → xs ≡ []
  no_elements [] all none = refl
  no_elements (x ∷ xs) all none = absurd (none 0 x (omega arith) (all 0 x (omega arith)))

module _ {A : Type 0} where
  -- where the elements of a short list stand
  pub none_in_nil : (x : A) → Contains [] x → ⊥
  none_in_nil x h = let lt = h.1 in omega arith

  pub Contains-head : (x : A) (xs : List A) → Contains (x ∷ xs) x
  Contains-head x xs = (0, omega arith, refl)

  pub Contains-cons_cases : (y : A) (ys : List A) (x : A) → Contains (y ∷ ys) x → (x ≡ y) ⊎ Contains ys x
  Contains-cons_cases y ys x (zero, lt, e) = inl (sym e)
  Contains-cons_cases y ys x (suc k, lt, e) = inr (k, omega arith, e)

  pub Contains-cons : (y : A) (ys : List A) (x : A) → Contains ys x → Contains (y ∷ ys) x
  Contains-cons y ys x (k, lt, e) = (suc k, omega arith, e)

-- of two beginnings of one list, the shorter is a beginning of the longer
pub beginnings : {A : Type 0} (xs ys m n : List A) → xs ++ m ≡ ys ++ n → length xs ≤ length ys → (k : List A) × (xs ++ k ≡ ys) × (m ≡ k ++ n)
beginnings [] ys m n e h = (ys, refl, e)
beginnings (x ∷ xs) [] m n e h = absurd (omega arith)
beginnings (x ∷ xs) (y ∷ ys) m n e h =
    let t = beginnings xs ys m n (cc) (omega arith) in
    let head : x ≡ y = cc in
    (t.0, (λ i. head i ∷ t.1 i), t.2)

module _ {V : Type 0} (P : ℕ → V → Type 0) where
  -- each view but one is as before
  pub each_set : (views : List V) (j : ℕ) (v : V) → ((k : ℕ) (u : V) → k ≢ j → get_elem? views k ≡ some u → P k u) → P j v → (k : ℕ) (u : V) → get_elem? (set views j v) k ≡ some u → P k u
  each_set views j v others mine k u e =
      ⊎_elim
      (λ (x : (k ≡ j) × (v ≡ u)). subst (λ (y : ℕ × V). P y.0 y.1) (λ i. (sym x.0 i, x.1 i)) mine)
      (λ (x : (k ≢ j) × (get_elem? views k ≡ some u)). others k u x.0 x.1)
      (at_set views j k v u e)

module _ {A : Type 0} (f : A → ℕ) where
  -- one element of a sum changes
  pub sum_by-at : (views : List A) (j : ℕ) (v v' : A) → get_elem? views j ≡ some v → sum_by f (set views j v') + f v ≡ sum_by f views + f v'
  sum_by-at [] j v v' e = absurd (some-ne-none v (sym e))
  sum_by-at (x ∷ xs) zero v v' e = let same : f x ≡ f v = ap f (some-injective x v e) in let a = sum_by-cons f x xs in let b = sum_by-cons f v' xs in omega arith
  sum_by-at (x ∷ xs) (suc j) v v' e = let t = sum_by-at xs j v v' e in let a = sum_by-cons f x xs in let b = sum_by-cons f x (set xs j v') in omega arith

  pub sum_by-same : (views : List A) (j : ℕ) (v v' : A) → get_elem? views j ≡ some v → f v' ≡ f v → sum_by f (set views j v') ≡ sum_by f views
  sum_by-same views j v v' at e = let t = sum_by-at views j v v' at in omega arith
