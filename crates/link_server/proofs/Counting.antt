-- The entries of a journal, counted by their passes.
use Rattle.std.proofs.Common.{◌≡◌, ℕ, zero, suc, ◌+◌, ◌<◌, ◌≤◌, ⊎_elim, Bool, true, false, cond, nat_eq, List, [], ◌∷◌, length, filter, take, get_or, sum_by, refl, sym, ap, subst, arith, eq-eqb, ne_eqb, All}
use Rattle.std.proofs.lemmas.Bool.{cases_eq}
use Rattle.std.proofs.lemmas.List.Elements.{All-head, All-tail}
use Rattle.std.proofs.lemmas.List.Sums.{sum_by_more}

-- the sum of a function over the numbers below this one
abbrev pub total : (ℕ → ℕ) → ℕ → ℕ
total f zero = 0
total f (suc n) = total f n + f n

total_le : (f g : ℕ → ℕ) (n : ℕ) → ((i : ℕ) → i < n → f i ≤ g i) → total f n ≤ total g n
total_le f g zero each = omega arith
total_le f g (suc n) each = let h = total_le f g n (λ i lt. each i (omega arith)) in let l = each n (omega arith) in omega arith

-- where one is less, and none is more, the sum is less
pub total_lt : (f g : ℕ → ℕ) (n j : ℕ) → j < n → f j < g j → ((i : ℕ) → i < n → f i ≤ g i) → total f n < total g n
total_lt f g zero j in' less each = absurd (omega arith)
total_lt f g (suc n) j in' less each =
    ⊎_elim
    (λ (e : j ≡ n). let here : f n < g n = subst (λ (k : ℕ). f k < g k) e less in let h = total_le f g n (λ i lt. each i (omega arith)) in omega arith)
    (λ (e : j ≡ n → ⊥). let before : j < n = omega arith in let h = total_lt f g n j before less (λ i lt. each i (omega arith)) in let l = each n (omega arith) in omega arith)
    (cases_eq j n)

total_none : (f : ℕ → ℕ) (n : ℕ) → ((i : ℕ) → i < n → f i ≡ 0) → total f n ≡ 0
total_none f zero each = refl
total_none f (suc n) each = let h = total_none f n (λ i lt. each i (omega arith)) in let l = each n (omega arith) in omega arith

-- one of them is greater by one
total_one : (f g : ℕ → ℕ) (n j : ℕ) → j < n → g j ≡ f j + 1 → ((i : ℕ) → (i ≡ j → ⊥) → g i ≡ f i) → total g n ≡ total f n + 1
total_one f g zero j in' more same = absurd (omega arith)
total_one f g (suc n) j in' more same =
    ⊎_elim
    (λ (e : j ≡ n). let here : g n ≡ f n + 1 = subst (λ (k : ℕ). g k ≡ f k + 1) e more in let h = total_same n (λ i lt. same i (λ is. omega arith)) in omega arith)
    (λ (e : j ≡ n → ⊥). let before : j < n = omega arith in let h = total_one f g n j before more same in let l = same n (λ is. e (sym is)) in omega arith)
    (cases_eq j n)
  where
    total_same : (m : ℕ) → ((i : ℕ) → i < m → g i ≡ f i) → total g m ≡ total f m
    total_same zero each = refl
    total_same (suc m) each = let h = total_same m (λ i lt. each i (omega arith)) in let l = each m (omega arith) in omega arith

-- a sum over the first elements of a list
pub total_taken : {A : Type 0} (f : A → ℕ) (g : ℕ → ℕ) (xs : List A) (d : A) (n : ℕ) → n ≤ length xs → ((i : ℕ) → i < n → g i ≡ f (get_or xs i d)) → total g n ≡ sum_by f (take n xs)
total_taken f g xs d zero fits same = refl
total_taken f g xs d (suc n) fits same =
    let h = total_taken f g xs d n (omega arith) (λ i lt. same i (omega arith)) in
    let l = same n (omega arith) in
    let more = sum_by_more f xs n d (omega arith) in
    let one : suc n ≡ n + 1 = omega arith in
    let at : sum_by f (take (suc n) xs) ≡ sum_by f (take (n + 1) xs) = ap (λ (k : ℕ). sum_by f (take k xs)) one in
    omega arith

module _ {E : Type 0} (pass_of : E → ℕ) where
  abbrev pub by : ℕ → List E → List E
  by pass entries = filter (λ e. nat_eq (pass_of e) pass) entries

  -- each entry is counted once
  pub counted : (n : ℕ) (entries : List E) → All (λ e. pass_of e < n) entries → total (λ i. length (by i entries)) n ≡ length entries
  counted n [] all = total_none (λ i. 0) n (λ i lt. refl)
  counted n (e ∷ es) all =
      let before = counted n es (All-tail (λ e. pass_of e < n) e es all) in
      let more = total_one (λ i. length (by i es)) (λ i. length (by i (e ∷ es))) n (pass_of e) (All-head (λ e. pass_of e < n) e es all)
      (one_more (nat_eq (pass_of e) (pass_of e)) (eq-eqb (pass_of e) (pass_of e) refl)) (λ i ne. as_before i (nat_eq (pass_of e) i) (ne_eqb (pass_of e) i (λ is. ne (sym is)))) in
      omega arith
    where
      one_more : (b : Bool) → b ≡ true → length (cond b (e ∷ by (pass_of e) es) (by (pass_of e) es)) ≡ length (by (pass_of e) es) + 1
      one_more true is = omega arith
      one_more false is = cc

      as_before : (i : ℕ) (b : Bool) → b ≡ false → length (cond b (e ∷ by i es) (by i es)) ≡ length (by i es)
      as_before i true is = cc
      as_before i false is = refl
