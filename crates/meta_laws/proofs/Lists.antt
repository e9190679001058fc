-- Lists of numbers.
use Rattle.std.proofs.Common.{◌≡◌, ℕ, zero, suc, ◌<◌, List, [], ◌∷◌, ◌++◌, inl, inr, Bool, true, false, ◌||◌, refl, sym, ap, ap₂, ◌∙◌, subst as transport, nat_eq, length, arith, if◌then◌else◌}
use Rattle.std.proofs.lemmas.Bool.{eqb-true, eq-eqb}
use Rattle.ld_trees.proofs.Equality.{and_left, and_right, and_both}
use Rattle.meta_trees.specs.Dependencies.{below}
use Rattle.meta_laws.specs.Cut.{listed, all_listed, without}
use Rattle.meta_trees.proofs.Dependencies.{or_split, or_left, last_or_less, or_right}

abbrev pub Distinct : List ℕ → Type 0
Distinct [] = Unit {0}
Distinct (k ∷ L) = (listed k L ≡ false) × Distinct L

pub not_both : (b : Bool) → b ≡ true → b ≡ false → ⊥
not_both b p q = cc

pub listed_append : (k : ℕ) (K L : List ℕ) → listed k (K ++ L) ≡ (listed k K || listed k L)
listed_append k [] L = refl
listed_append k (m ∷ K) L = ap (λ b. nat_eq m k || b) (listed_append k K L) ∙ or_assoc (nat_eq m k)
  where
    or_assoc : (b : Bool) → (b || (listed k K || listed k L)) ≡ ((b || listed k K) || listed k L)
    or_assoc true = refl
    or_assoc false = refl

pub listed_one : (k n : ℕ) (b : Bool) → listed k (if b then n ∷ [] else []) ≡ true → (k ≡ n) × (b ≡ true)
listed_one k n true h = (sym (eqb-true n k (elim (or_split (nat_eq n k) false h) [ inl e ↦ e | inr e ↦ absurd cc ])), refl)
listed_one k n false h = absurd cc

pub below_sound : (p : ℕ → Bool) (n k : ℕ) → listed k (below p n) ≡ true → (k < n) × (p k ≡ true)
below_sound p zero k h = absurd cc
below_sound p (suc n) k h = elim (or_split (listed k (below p n)) _ (sym (listed_append k (below p n) _) ∙ h)) [
  | inl e ↦ let r = below_sound p n k e in (omega arith, r.1)
  | inr e ↦ let r = listed_one k n (p n) e in (omega arith, ap p r.0 ∙ r.1)
]

one_listed : (n : ℕ) (b : Bool) → b ≡ true → listed n (if b then n ∷ [] else []) ≡ true
one_listed n true e = or_left (nat_eq n n) false (eq-eqb n n refl)
one_listed n false e = absurd cc

pub below_complete : (p : ℕ → Bool) (n k : ℕ) → k < n → p k ≡ true → listed k (below p n) ≡ true
below_complete p zero k l h = absurd (omega arith)
below_complete p (suc n) k l h = listed_append k (below p n) _ ∙ elim (last_or_less k n l) [
  | inl q ↦ or_right (listed k (below p n)) _ (transport (λ j. listed k (if p j then j ∷ [] else []) ≡ true) q (one_listed k (p k) h))
  | inr m ↦ or_left (listed k (below p n)) _ (below_complete p n k m h)
]

pub is_false : (b : Bool) → (b ≡ true → ⊥) → b ≡ false
is_false true f = absurd (f refl)
is_false false f = refl

pub or_false : (a b : Bool) → a ≡ false → b ≡ false → (a || b) ≡ false
or_false a b p q = ap₂ ◌||◌ p q

distinct_append : (K L : List ℕ) → Distinct K → Distinct L → ((k : ℕ) → listed k K ≡ true → listed k L ≡ false) → Distinct (K ++ L)
distinct_append [] L a b f = b
distinct_append (k ∷ K) L a b f =
    (listed_append k K L ∙ or_false (listed k K) _ a.0 (f k (or_left (nat_eq k k) _ (eq-eqb k k refl))), distinct_append K L a.1 b (λ j h. f j (or_right (nat_eq k j) _ h)))

distinct_one : (n : ℕ) (b : Bool) → Distinct (if b then n ∷ [] else [])
distinct_one n true = (refl, tt)
distinct_one n false = tt

pub below_distinct : (p : ℕ → Bool) (n : ℕ) → Distinct (below p n)
below_distinct p zero = tt
below_distinct p (suc n) = distinct_append (below p n) _ (below_distinct p n) (distinct_one n (p n)) (λ k h. is_false _ (λ e.
    let a = below_sound p n k h in
    let b = listed_one k n (p n) e in
    absurd (omega arith)))

pub all_listed_each : (K L : List ℕ) → all_listed K L ≡ true → (k : ℕ) → listed k K ≡ true → listed k L ≡ true
all_listed_each [] L h k m = absurd cc
all_listed_each (j ∷ K) L h k m = elim (or_split (nat_eq j k) _ m) [
  | inl e ↦ transport (λ i. listed i L ≡ true) (eqb-true j k e) (and_left (listed j L) _ h)
  | inr e ↦ all_listed_each K L (and_right (listed j L) _ h) k e
]

pub each_all_listed : (K L : List ℕ) → ((k : ℕ) → listed k K ≡ true → listed k L ≡ true) → all_listed K L ≡ true
each_all_listed [] L f = refl
each_all_listed (j ∷ K) L f = and_both (listed j L) _ (f j (or_left (nat_eq j j) _ (eq-eqb j j refl))) (each_all_listed K L (λ k h. f k (or_right (nat_eq j k) _ h)))

without_length_if : (m k : ℕ) (L : List ℕ) (b : Bool) → (b ≡ false → suc (length (without k L)) ≡ length L) → suc (length (if b then L else m ∷ without k L)) ≡ suc (length L)
without_length_if m k L true f = refl
without_length_if m k L false f = let h = f refl in omega arith

pub without_length : (k : ℕ) (L : List ℕ) → listed k L ≡ true → suc (length (without k L)) ≡ length L
without_length k [] h = absurd cc
without_length k (m ∷ L) h = without_length_if m k L (nat_eq m k) (λ e. without_length k L (sym (ap (λ b. b || listed k L) e) ∙ h))

without_listed_if : (m k j : ℕ) (L : List ℕ) (b : Bool) → nat_eq m k ≡ b → (b ≡ false → listed j L ≡ (nat_eq k j || listed j (without k L))) → listed j (m ∷ L) ≡ (nat_eq k j || listed j (if b then L else m ∷ without k L))
without_listed_if m k j L true e f = ap (λ i. nat_eq i j || listed j L) (eqb-true m k e)
without_listed_if m k j L false e f = ap (λ b. nat_eq m j || b) (f refl) ∙ swap (nat_eq m j) (nat_eq k j) _
  where
    swap : (a b c : Bool) → (a || (b || c)) ≡ (b || (a || c))
    swap true true c = refl
    swap true false c = refl
    swap false b c = refl

pub without_listed : (k j : ℕ) (L : List ℕ) → listed k L ≡ true → listed j L ≡ (nat_eq k j || listed j (without k L))
without_listed k j [] h = absurd cc
without_listed k j (m ∷ L) h = without_listed_if m k j L (nat_eq m k) refl (λ e. without_listed k j L (sym (ap (λ b. b || listed k L) e) ∙ h))

without_own_if : (m k : ℕ) (L : List ℕ) (b : Bool) → nat_eq m k ≡ b → listed m L ≡ false → listed k (without k L) ≡ false → listed k (if b then L else m ∷ without k L) ≡ false
without_own_if m k L true e a f = transport (λ i. listed i L ≡ false) (eqb-true m k e) a
without_own_if m k L false e a f = or_false (nat_eq m k) _ e f

pub without_own : (k : ℕ) (L : List ℕ) → Distinct L → listed k (without k L) ≡ false
without_own k [] a = refl
without_own k (m ∷ L) a = without_own_if m k L (nat_eq m k) refl a.0 (without_own k L a.1)

pub without_less : (k j : ℕ) (L : List ℕ) → listed j (without k L) ≡ true → listed j L ≡ true
without_less k j [] h = absurd cc
without_less k j (m ∷ L) h = go (nat_eq m k) h (without_less k j L)
  where
    go : (b : Bool) → listed j (if b then L else m ∷ without k L) ≡ true → (listed j (without k L) ≡ true → listed j L ≡ true) → listed j (m ∷ L) ≡ true
    go true e f = or_right (nat_eq m j) _ e
    go false e f = elim (or_split (nat_eq m j) _ e) [ inl a ↦ or_left (nat_eq m j) _ a | inr a ↦ or_right (nat_eq m j) _ (f a) ]

pub without_distinct : (k : ℕ) (L : List ℕ) → Distinct L → Distinct (without k L)
without_distinct k [] a = tt
without_distinct k (m ∷ L) a = go (nat_eq m k) (without_distinct k L a.1)
  where
    go : (b : Bool) → Distinct (without k L) → Distinct (if b then L else m ∷ without k L)
    go true r = a.1
    go false r = (is_false _ (λ e. not_both _ (without_less k m L e) a.0), r)
