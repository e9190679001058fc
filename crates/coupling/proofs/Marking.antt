-- Marks that are made one after another.
use Rattle.std.proofs.Common.{◌≡◌, ◌≢◌, ◌<◌, ◌≤◌, ◌+◌, ◌-◌, ◌⊎◌, inl, inr, ℕ, zero, suc, List, [], ◌∷◌, Bool, true, false, ◌||◌, nat_eq, length, map, take, get_or, set, refl, sym, ap, ◌∙◌, subst, arith, get_or-set_same, get_or-set_other}
use Rattle.std.specs.Prelude.{Contains, sum_by}
use Rattle.std.proofs.lemmas.Bool.{eqb-true, eqb-false}
use Rattle.std.proofs.lemmas.List.{length-set}
use Rattle.std.proofs.lemmas.List.Sums.{sum_by-cons}
use Rattle.ld_trees.specs.Term.{Term, ◌▹◌}
use Rattle.ld_terms.specs.Views.{terms_of}
use Rattle.ld_terms.proofs.Arguments.{terms_of_more}
use Rattle.meta_trees.specs.Dependencies.{occurs, occurs_in}
use Rattle.meta_trees.proofs.Dependencies.{or_split, or_left, or_right}
use Rattle.coupling.specs.Looks.{remembered}
use Rattle.coupling.specs.Marks.{IsMarked, HasMarked, AreKnown, Marks}
use Rattle.coupling.specs.declared.looks.Looks.{Looks}

module _ (p : ℕ → Bool) (ms ms' : List ℕ) (a : HasMarked p ms ms') where
  -- a mark stays
  pub still : (k : ℕ) → IsMarked ms k → IsMarked ms' k
  still k l = elim (a.each k) [
    | inl e ↦ omega (arith, e)
    | inr w ↦ let z = w.0 in absurd (omega (arith, z, l))
  ]

  -- marks don't fall
  pub rises : (k : ℕ) → get_or ms k 0 ≤ get_or ms' k 0
  rises k = elim (a.each k) [
    | inl e ↦ omega (arith, e)
    | inr w ↦ let z = w.0 in omega (arith, z)
  ]

  pub known_still : {H : Type 0} (means : H → Term) (seen : Looks H) → AreKnown means seen ms → AreKnown means seen ms'
  known_still means seen f x c k l o = let s = a.sized in still k (f x c k (omega (arith, l, s)) o)

-- where no number passes, nothing is marked
pub none_marked : (p : ℕ → Bool) (ms : List ℕ) → ((k : ℕ) → p k ≡ true → IsMarked ms k) → HasMarked p ms ms
none_marked p ms f = record { sized = refl; each = λ k. inl refl; all = λ k l e. f k e }

-- the same with the length at hand
pub marked_before : (p : ℕ → Bool) (ms : List ℕ) → ((k : ℕ) → k < length ms → p k ≡ true → IsMarked ms k) → HasMarked p ms ms
marked_before p ms f = record { sized = refl; each = λ k. inl refl; all = f }

-- numbers that pass one test, and then those that pass another
pub both_marked : (p q : ℕ → Bool) (ms ms1 ms2 : List ℕ) → HasMarked p ms ms1 → HasMarked q ms1 ms2 → HasMarked (λ k. p k || q k) ms ms2
both_marked p q ms ms1 ms2 a b = record {
  sized = b.sized ∙ a.sized;
  each = λ k. elim (a.each k) [
    | inl e ↦ elim (b.each k) [
      | inl f ↦ inl (f ∙ e)
      | inr w ↦ inr (sym e ∙ w.0, w.1, or_right (p k) (q k) w.2)
    ]
    | inr v ↦ elim (b.each k) [
      | inl f ↦ inr (v.0, f ∙ v.1, or_left (p k) (q k) v.2)
      | inr w ↦ let one = v.1 in let zero_now = w.0 in absurd (omega (arith, one, zero_now))
    ]
  ];
  all = λ k l e. elim (or_split (p k) (q k) e) [
    | inl x ↦ still q ms1 ms2 b k (a.all k l x)
    | inr y ↦ let s = a.sized in b.all k (omega (arith, l, s)) y
  ];
}

-- tests that agree
pub marked_as : (p q : ℕ → Bool) (ms ms' : List ℕ) → ((k : ℕ) → p k ≡ q k) → HasMarked p ms ms' → HasMarked q ms ms'
marked_as p q ms ms' f a = record {
  sized = a.sized;
  each = λ k. elim (a.each k) [ inl e ↦ inl e | inr w ↦ inr (w.0, w.1, sym (f k) ∙ w.2) ];
  all = λ k l e. a.all k l (f k ∙ e);
}

-- a number gets a mark
pub set_marked : (ms : List ℕ) (k : ℕ) → k < length ms → get_or ms k 0 ≡ 0 → HasMarked (nat_eq k) ms (set ms k 1)
set_marked ms k l z = record {
  sized = length-set ms k 1;
  each = λ j. at j (nat_eq k j) refl;
  all = λ j m e. let q : k ≡ j = eqb-true k j e in subst (IsMarked (set ms k 1)) q (let now = get_or-set_same ms k 1 0 l in omega (arith, now));
}
  where
    at : (j : ℕ) (b : Bool) → nat_eq k j ≡ b → (get_or (set ms k 1) j 0 ≡ get_or ms j 0) ⊎ ((get_or ms j 0 ≡ 0) × (get_or (set ms k 1) j 0 ≡ 1) × (nat_eq k j ≡ true))
    at j true e =
        let q : k ≡ j = eqb-true k j e in
        inr (subst (λ i. get_or ms i 0 ≡ 0) q z, subst (λ i. get_or (set ms k 1) i 0 ≡ 1) q (get_or-set_same ms k 1 0 l), e)
    at j false e = let n : k ≢ j = eqb-false k j e in inl (get_or-set_other ms k j 1 0 (λ q. n (sym q)))

-- a number that has a mark, or none that is declared, gets none
pub set_before : (ms : List ℕ) (k : ℕ) → (k < length ms → IsMarked ms k) → HasMarked (nat_eq k) ms ms
set_before ms k f = marked_before (nat_eq k) ms (λ j l e. let q : k ≡ j = eqb-true k j e in subst (IsMarked ms) q (f (omega (arith, l, q))))

-- ---- handles that are remembered, and lists of terms

-- one handle more, in whose term every metavariable is marked
pub remembered_one : {H : Type 0} (means : H → Term) (h : H) (seen seen' : Looks H) (ms ms' : List ℕ) → Marks means (λ k. occurs k (means h)) ms seen ms'
    → ((x : H) → Contains (remembered seen') x → (h ≡ x) ⊎ Contains (remembered seen) x) → Marks means (λ k. occurs k (means h)) ms seen' ms'
remembered_one means h seen seen' ms ms' a f = record {
  marked = a.marked;
  known = λ x c k l o. elim (f x c) [
    | inl e ↦ let s = a.marked.sized in a.marked.all k (omega (arith, l, s)) (subst (λ y. occurs k (means y) ≡ true) (sym e) o)
    | inr q ↦ a.known x q k l o
  ];
}

-- one term more
pub next_marked : {H : Type 0} (means : H → Term) (hs : List H) (i : ℕ) (h : H) (ms ms1 ms2 : List ℕ) → i < length hs → h ≡ get_or hs i h
    → HasMarked (λ k. occurs_in k (terms_of (map means (take i hs)))) ms ms1 → HasMarked (λ k. occurs k (means h)) ms1 ms2
    → HasMarked (λ k. occurs_in k (terms_of (map means (take (i + 1) hs)))) ms ms2
next_marked means hs i h ms ms1 ms2 l is a b =
    let before = terms_of (map means (take i hs)) in
    let more = terms_of_more means hs i h l ∙ ap (λ x. before ▹ means x) (sym is) in
    marked_as (λ k. occurs_in k before || occurs k (means h)) (λ k. occurs_in k (terms_of (map means (take (i + 1) hs)))) ms ms2 (λ k. sym (ap (occurs_in k) more))
    (both_marked (λ k. occurs_in k before) (λ k. occurs k (means h)) ms ms1 ms2 a b)

-- ---- what is left to be looked at

abbrev pub left_of : ℕ → ℕ
left_of x = 2 - x

pub less_left : (ms ns : List ℕ) → length ns ≡ length ms → ((k : ℕ) → get_or ms k 0 ≤ get_or ns k 0) → sum_by left_of ns ≤ sum_by left_of ms
less_left [] [] l f = omega arith
less_left [] (n ∷ ns) l f = absurd (omega arith)
less_left (m ∷ ms) [] l f = absurd (omega arith)
less_left (m ∷ ms) (n ∷ ns) l f =
    let first : m ≤ n = f 0 in
    let rest = less_left ms ns (omega arith) (λ k. f (suc k)) in
    let a = sum_by-cons left_of m ms in
    let b = sum_by-cons left_of n ns in
    omega (arith, first, rest, a, b)

pub fewer_left : (ms ns : List ℕ) (i : ℕ) → length ns ≡ length ms → ((k : ℕ) → get_or ms k 0 ≤ get_or ns k 0) → i < length ms → get_or ms i 0 ≡ 1 → 2 ≤ get_or ns i 0 → sum_by left_of ns < sum_by left_of ms
fewer_left [] ns i l f b x y = absurd (omega arith)
fewer_left (m ∷ ms) [] i l f b x y = absurd (omega arith)
fewer_left (m ∷ ms) (n ∷ ns) zero l f b x y =
    let rest = less_left ms ns (omega arith) (λ k. f (suc k)) in
    let a = sum_by-cons left_of m ms in
    let c = sum_by-cons left_of n ns in
    omega (arith, rest, a, c, x, y)
fewer_left (m ∷ ms) (n ∷ ns) (suc i) l f b x y =
    let first : m ≤ n = f 0 in
    let rest = fewer_left ms ns i (omega arith) (λ k. f (suc k)) (omega arith) x y in
    let a = sum_by-cons left_of m ms in
    let c = sum_by-cons left_of n ns in
    omega (arith, first, rest, a, c)
