-- The active goals after a move: they are open, and each is listed once.
use Rattle.std.proofs.Common.{◌≡◌, ℕ, zero, suc, ◌<◌, ◌≤◌, Bool, true, false, not, ◌&&◌, ◌||◌, nat_eq, nat_le, List, [], ◌∷◌, ◌++◌, length, filter, All, if◌then◌else◌, get_or, refl, sym, ap, ◌∙◌, arith}
use Rattle.std.proofs.lemmas.Bool.{false≢true, eqb-true, eq-eqb}
use Rattle.std.proofs.lemmas.Bool.Decides.{nat_tests}
use Rattle.std.proofs.lemmas.List.Elements.{filter_passes, All-append}
use Rattle.meta_trees.specs.Dependencies.{below}
use Rattle.meta_trees.proofs.Dependencies.{or_left, or_right}
use Rattle.meta_context.specs.Declaring.{IsOpen}
use Rattle.meta_laws.specs.Cut.{listed}
use Rattle.goal_state.specs.State.{is_open, AreDistinct}
use Rattle.goal_state.proofs.Means.{open_is}
use Rattle.unification.specs.Refusals.{Plain}
use Rattle.move_set.specs.Moves.{unlisted, next_goals}

-- ---- filtered lists

listed_by : (p : ℕ → Bool) (k x : ℕ) (xs : List ℕ) (b c : Bool) → p x ≡ b → nat_eq x k ≡ c → listed k (x ∷ xs) ≡ false → (listed k xs ≡ false → listed k (filter p xs) ≡ false) → listed k (filter p (x ∷ xs)) ≡ false
listed_by p k x xs b true q r e f = absurd (false≢true (sym e ∙ ap (λ c. c || listed k xs) r))
listed_by p k x xs true false q r e f = let rest : listed k xs ≡ false = sym (ap (λ c. c || listed k xs) r) ∙ e in rw (q, r) (f rest)
listed_by p k x xs false false q r e f = let rest : listed k xs ≡ false = sym (ap (λ c. c || listed k xs) r) ∙ e in rw q (f rest)

listed_filtered : (p : ℕ → Bool) (k : ℕ) (xs : List ℕ) → listed k xs ≡ false → listed k (filter p xs) ≡ false
listed_filtered p k [] e = refl
listed_filtered p k (x ∷ xs) e = listed_by p k x xs (p x) (nat_eq x k) refl refl e (listed_filtered p k xs)

distinct_by : (p : ℕ → Bool) (x : ℕ) (xs : List ℕ) (b : Bool) → p x ≡ b → listed x (filter p xs) ≡ false → AreDistinct (filter p xs) → AreDistinct (filter p (x ∷ xs))
distinct_by p x xs true q l h = rw q (l, h)
distinct_by p x xs false q l h = rw q h

distinct_filtered : (p : ℕ → Bool) (xs : List ℕ) → AreDistinct xs → AreDistinct (filter p xs)
distinct_filtered p [] h = tt
distinct_filtered p (x ∷ xs) h = distinct_by p x xs (p x) refl (listed_filtered p x xs h.0) (distinct_filtered p xs h.1)

-- what holds of all holds of those that pass
all_by : (P : ℕ → Type 0) (p : ℕ → Bool) (x : ℕ) (xs : List ℕ) (b : Bool) → p x ≡ b → P x → All P (filter p xs) → All P (filter p (x ∷ xs))
all_by P p x xs true q h a = rw q (All-append P (x ∷ []) (filter p xs) (elim [ zero ↦ λ e l. h | suc k ↦ λ e l. absurd (omega arith) ]) a)
all_by P p x xs false q h a = rw q a

all_filtered : (P : ℕ → Type 0) (p : ℕ → Bool) (xs : List ℕ) → All P xs → All P (filter p xs)
all_filtered P p [] a = a
all_filtered P p (x ∷ xs) a = all_by P p x xs (p x) refl (a 0 x (omega arith)) (all_filtered P p xs (λ k e l. a (suc k) e (omega arith)))

-- ---- one list after another

listed_by_both : (k x : ℕ) (xs ys : List ℕ) (b : Bool) → nat_eq x k ≡ b → listed k (x ∷ xs) ≡ false → (listed k xs ≡ false → listed k (xs ++ ys) ≡ false) → (nat_eq x k || listed k (xs ++ ys)) ≡ false
listed_by_both k x xs ys true q e f = absurd (false≢true (sym e ∙ ap (λ b. b || listed k xs) q))
listed_by_both k x xs ys false q e f = ap (λ b. b || listed k (xs ++ ys)) q ∙ f (sym (ap (λ b. b || listed k xs) q) ∙ e)

listed_of_both : (k : ℕ) (xs ys : List ℕ) → listed k xs ≡ false → listed k ys ≡ false → listed k (xs ++ ys) ≡ false
listed_of_both k [] ys e f = f
listed_of_both k (x ∷ xs) ys e f = listed_by_both k x xs ys (nat_eq x k) refl e (λ r. listed_of_both k xs ys r f)

-- numbers of which one has a property and no one of the other
distinct_both : (xs ys : List ℕ) → AreDistinct xs → AreDistinct ys → All (λ x. listed x ys ≡ false) xs → AreDistinct (xs ++ ys)
distinct_both [] ys a b apart = b
distinct_both (x ∷ xs) ys a b apart = (listed_of_both x xs ys a.0 (apart 0 x (omega arith)), distinct_both xs ys a.1 b (λ k e l. apart (suc k) e (omega arith)))

-- a number that isn't below some numbers
lesser_by : (n m : ℕ) (ms : List ℕ) (b : Bool) → nat_eq m n ≡ b → m < n → listed n ms ≡ false → (nat_eq m n || listed n ms) ≡ false
lesser_by n m ms true q l f = absurd (let same = eqb-true m n q in omega arith)
lesser_by n m ms false q l f = ap (λ b. b || listed n ms) q ∙ f

lesser : (n : ℕ) (ms : List ℕ) → All (λ m. m < n) ms → listed n ms ≡ false
lesser n [] a = refl
lesser n (m ∷ ms) a = lesser_by n m ms (nat_eq m n) refl (a 0 m (omega arith)) (lesser n ms (λ k e l. a (suc k) e (omega arith)))

-- an element is listed
holds_own : (y : ℕ) (xs : List ℕ) (k e : ℕ) → k < length xs → y ≡ get_or xs k e → listed y xs ≡ true
holds_own y [] k e l q = absurd (omega arith)
holds_own y (x ∷ xs) zero e l q = or_left (nat_eq x y) _ (eq-eqb x y (sym q))
holds_own y (x ∷ xs) (suc k) e l q = or_right (nat_eq x y) _ (holds_own y xs k e (omega arith) q)

-- where no number of one list is in another, no number of the other is in that one
apart_by : (x y : ℕ) (xs ys : List ℕ) (b : Bool) → nat_eq y x ≡ b → (y ≡ x → listed y xs ≡ true) → listed y xs ≡ false → listed x ys ≡ false → (nat_eq y x || listed x ys) ≡ false
apart_by x y xs ys true q f e h = absurd (false≢true (sym e ∙ f (eqb-true y x q)))
apart_by x y xs ys false q f e h = ap (λ b. b || listed x ys) q ∙ h

swapped : (xs ys : List ℕ) → All (λ y. listed y xs ≡ false) ys → All (λ x. listed x ys ≡ false) xs
swapped xs [] a k e l = refl
swapped xs (y ∷ ys) a k e l = apart_by (get_or xs k e) y xs ys (nat_eq y (get_or xs k e)) refl (holds_own y xs k e l) (a 0 y (omega arith)) (swapped xs ys (λ j f m. a (suc j) f (omega arith)) k e l)

-- ---- the numbers below another that pass a test

-- one number, where it passes
abbrev last_if : ℕ → Bool → List ℕ
last_if n b = if b then n ∷ [] else []

all_below : (P : ℕ → Type 0) (p : ℕ → Bool) (n : ℕ) → ((m : ℕ) → m < n → p m ≡ true → P m) → All P (below p n)
all_below P p zero f = λ k e l. absurd (omega arith)
all_below P p (suc n) f = All-append P (below p n) (last_if n (p n)) (all_below P p n (λ m l q. f m (omega arith) q)) (go (p n) refl)
  where
    go : (b : Bool) → p n ≡ b → All P (last_if n b)
    go true q = elim [ zero ↦ λ e l. f n (omega arith) q | suc k ↦ λ e l. absurd (omega arith) ]
    go false q = λ k e l. absurd (omega arith)

distinct_below : (p : ℕ → Bool) (n : ℕ) → AreDistinct (below p n)
distinct_below p zero = tt
distinct_below p (suc n) = distinct_both (below p n) (last_if n (p n)) (distinct_below p n) (go (p n)) (all_below (λ x. listed x (last_if n (p n)) ≡ false) p n (λ m l q. apart m l (p n)))
  where
    go : (b : Bool) → AreDistinct (last_if n b)
    go true = (refl, tt)
    go false = tt

    apart : (m : ℕ) → m < n → (b : Bool) → listed m (last_if n b) ≡ false
    apart m l true = other (nat_eq n m) refl
      where
        other : (b : Bool) → nat_eq n m ≡ b → (nat_eq n m || false) ≡ false
        other true q = absurd (let same = eqb-true n m q in omega arith)
        other false q = ap (λ b. b || false) q
    apart m l false = refl

-- ---- the goals

both_hold : (a b c : Bool) → (a && b && c) ≡ true → (a ≡ true) × (b ≡ true) × (c ≡ true)
both_hold true true true e = (refl, refl, refl)
both_hold true true false e = absurd (false≢true e)
both_hold true false c e = absurd (false≢true e)
both_hold false b c e = absurd (false≢true e)

not_true : (b : Bool) → not b ≡ true → b ≡ false
not_true true e = absurd (false≢true e)
not_true false e = refl

at_least : (m n : ℕ) → nat_le m n ≡ true → m ≤ n
at_least m n e = grind (arith, nat_tests, e)

module _ (before : ℕ) (metas : Plain) (fresh goals : List ℕ) (auto : Bool) where
  abbrev stated : List ℕ
  stated = filter (is_open metas) fresh

  abbrev added : List ℕ
  added = unlisted metas before stated

  abbrev others : List ℕ
  others = filter (is_open metas) (if auto then goals else [])

  tested : (m : ℕ) → (nat_le before m && is_open metas m && not (listed m stated)) ≡ true → (before ≤ m) × (is_open metas m ≡ true) × (listed m stated ≡ false)
  tested m e = let b = both_hold (nat_le before m) (is_open metas m) (not (listed m stated)) e in (at_least before m b.0, b.1, not_true (listed m stated) b.2)

  pub active : All (IsOpen metas) (next_goals metas before fresh goals auto)
  active =
      All-append (IsOpen metas) (stated ++ added) others
      (All-append (IsOpen metas) stated added (λ k e l. (open_is metas _).0 (filter_passes (is_open metas) fresh k e l)) (all_below (IsOpen metas) _ (length metas) (λ m l q. (open_is metas m).0 (tested m q).1)))
      (λ k e l. (open_is metas _).0 (filter_passes (is_open metas) (if auto then goals else []) k e l))

  module _ (low : All (λ m. m < before) goals) (once : AreDistinct goals) (high : All (λ m. before ≤ m) fresh) (once_more : AreDistinct fresh) where
    chosen : (b : Bool) → All (λ m. m < before) (if b then goals else [])
    chosen true = low
    chosen false = λ k e l. absurd (omega arith)

    chosen_once : (b : Bool) → AreDistinct (if b then goals else [])
    chosen_once true = once
    chosen_once false = tt

    others_low : All (λ m. m < before) others
    others_low = all_filtered (λ m. m < before) (is_open metas) (if auto then goals else []) (chosen auto)

    new_high : All (λ m. before ≤ m) (stated ++ added)
    new_high = All-append (λ m. before ≤ m) stated added (all_filtered (λ m. before ≤ m) (is_open metas) fresh high) (all_below (λ m. before ≤ m) _ (length metas) (λ m l q. (tested m q).0))

    pub distinct : AreDistinct (next_goals metas before fresh goals auto)
    distinct =
        distinct_both (stated ++ added) others
        (distinct_both stated added (distinct_filtered (is_open metas) fresh once_more) (distinct_below _ (length metas)) (swapped stated added (all_below (λ m. listed m stated ≡ false) _ (length metas) (λ m l q. (tested m q).2))))
        (distinct_filtered (is_open metas) _ (chosen_once auto))
        (λ k e l. lesser _ others (λ j f m. let a = others_low j f m in let b = new_high k e l in omega arith))
