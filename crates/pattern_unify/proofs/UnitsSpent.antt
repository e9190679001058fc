-- Units that are spent for the occurrences of a metavariable.
use Rattle.std.proofs.Common.{◌≡◌, ℕ, ◌+◌, ◌<◌, ◌≤◌, List, [], ◌∷◌, Bool, true, false, nat_eq, length, take, drop, map, get_or, ap, subst, arith, if◌then◌else◌}
use Rattle.ld_trees.specs.Term.{Term, App, Numbered, Terms, ◌▹◌}
use Rattle.ld_terms.specs.Views.{terms_onto, terms_of}
use Rattle.meta_trees.specs.Dependencies.{is_meta}
use Rattle.unification.specs.Pruning.{occurrences, occurrences_in}
use Rattle.pattern_unify.specs.Walks.{IsSpent}
use Rattle.pattern_unify.proofs.Onto.{done_and_rest, one_more_done}

-- the first part has taken all
pub short : (k j n l : ℕ) (r : Bool) → r ≡ false → IsSpent k n l r → IsSpent (k + j) n l false
short k j n l true e h = absurd (grind (arith, e))
short k j n l false e h = (omega (arith, h.0), h.1)

-- and else it is what the second part takes
pub both : (k j n m l : ℕ) (r z : Bool) → r ≡ true → IsSpent k n m r → IsSpent j m l z → IsSpent (k + j) n l z
both k j n m l false z e h g = absurd (grind (arith, e))
both k j n m l true true e h g = omega (arith, h, g)
both k j n m l true false e h g = (omega (arith, h, g.0), g.1)

pub as_many : (k j n l : ℕ) (r : Bool) → k ≡ j → IsSpent k n l r → IsSpent j n l r
as_many k j n l r e h = subst (λ i. IsSpent i n l r) e h

-- one unit or none
pub one_spent : (k m n l : ℕ) → k ≡ m → n ≡ 1 + l → IsSpent (if is_meta m (Numbered k) then 1 else 0) n l true
one_spent k m n l e q = by_case (nat_eq k m) (grind (arith, e))
  where
    by_case : (b : Bool) → b ≡ true → n ≡ (if b then 1 else 0) + l
    by_case true t = q
    by_case false t = absurd (grind (arith, t))

pub no_unit : (k m n l : ℕ) → k ≡ m → n ≡ 0 → l ≡ 0 → IsSpent (if is_meta m (Numbered k) then 1 else 0) n l false
no_unit k m n l e q z = (by_case (nat_eq k m) (grind (arith, e)), z)
  where
    by_case : (b : Bool) → b ≡ true → n < (if b then 1 else 0)
    by_case true t = omega arith
    by_case false t = absurd (grind (arith, t))

pub none_spent : (k m n : ℕ) → (k ≡ m → ⊥) → IsSpent (if is_meta m (Numbered k) then 1 else 0) n n true
none_spent k m n e = by_case (nat_eq k m) (grind (arith, e))
  where
    by_case : (b : Bool) → b ≡ false → n ≡ (if b then 1 else 0) + n
    by_case true t = absurd (grind (arith, t))
    by_case false t = omega arith

module _ (m : ℕ) where
  occurrences_onto : (us : Terms) (xs : List Term) → occurrences_in m us ≤ occurrences_in m (terms_onto us xs)
  occurrences_onto us [] = omega arith
  occurrences_onto us (x ∷ xs) = omega (arith, occurrences_onto (us ▹ x) xs)

  module _ {H : Type 0} (means : H → Term) (hs : List H) (i : ℕ) (h : H) (l : i < length hs) (e : h ≡ get_or hs i h) where
    next : occurrences_in m (terms_of (map means (take (i + 1) hs))) ≡ occurrences_in m (terms_of (map means (take i hs))) + occurrences m (means h)
    next = ap (occurrences_in m) (one_more_done means hs i h l e)

    pub each_spent : (n k j : ℕ) (r : Bool) → r ≡ true → IsSpent (occurrences_in m (terms_of (map means (take i hs)))) n k true → IsSpent (occurrences m (means h)) k j r → IsSpent (occurrences_in m (terms_of (map means (take (i + 1) hs)))) n j true
    each_spent n k j false q a b = absurd (grind (arith, q))
    each_spent n k j true q a b = omega (arith, next, a, b)

    pub each_short : (n k j : ℕ) (r : Bool) → r ≡ false → IsSpent (occurrences_in m (terms_of (map means (take i hs)))) n k true → IsSpent (occurrences m (means h)) k j r → IsSpent (occurrences_in m (terms_of (map means hs))) n j false
    each_short n k j true q a b = absurd (grind (arith, q))
    each_short n k j false q a b = (omega (arith, next, a, b.0, occurrences_onto (terms_of (map means (take (i + 1) hs))) (map means (drop (i + 1) hs)), ap (occurrences_in m) (done_and_rest means hs (i + 1))), b.1)

-- ---- in an application that is walked down to its head: units before, and units left where the rest of the spine is w

module _ (m : ℕ) (f a : Term) where
  abbrev pub IsLeft : ℕ → ℕ → Term → Type 0
  IsLeft n k w = n + occurrences m w ≡ occurrences m f + occurrences m a + k

  pub spine_begun : (n k : ℕ) (r : Bool) → r ≡ true → IsSpent (occurrences m a) n k r → IsLeft n k f
  spine_begun n k false e h = absurd (grind (arith, e))
  spine_begun n k true e h = omega (arith, h)

  pub spine_not_begun : (n k : ℕ) (r : Bool) → r ≡ false → IsSpent (occurrences m a) n k r → IsSpent (occurrences m f + occurrences m a) n k false
  spine_not_begun n k true e h = absurd (grind (arith, e))
  spine_not_begun n k false e h = (omega (arith, h.0), h.1)

  module _ (n k j : ℕ) (r : Bool) where
    pub spine_further : (w g b : Term) → App g b ≡ w → r ≡ true → IsLeft n k w → IsSpent (occurrences m b) k j r → IsLeft n j g
    spine_further w g b e q l h = by_answer r q h
      where
        by_answer : (x : Bool) → x ≡ true → IsSpent (occurrences m b) k j x → IsLeft n j g
        by_answer false q h = absurd (grind (arith, q))
        by_answer true q h = let o : occurrences m g + occurrences m b ≡ occurrences m w = ap (occurrences m) e in omega (arith, o, l, h)

    pub spine_short : (w g b : Term) → App g b ≡ w → r ≡ false → IsLeft n k w → IsSpent (occurrences m b) k j r → IsSpent (occurrences m f + occurrences m a) n j false
    spine_short w g b e q l h = by_answer r q h
      where
        by_answer : (x : Bool) → x ≡ false → IsSpent (occurrences m b) k j x → IsSpent (occurrences m f + occurrences m a) n j false
        by_answer true q h = absurd (grind (arith, q))
        by_answer false q h = let o : occurrences m g + occurrences m b ≡ occurrences m w = ap (occurrences m) e in (omega (arith, o, l, h.0), h.1)

    pub spine_ended : (w : Term) → IsLeft n k w → IsSpent (occurrences m w) k j r → IsSpent (occurrences m f + occurrences m a) n j r
    spine_ended w l h = by_answer r h
      where
        by_answer : (x : Bool) → IsSpent (occurrences m w) k j x → IsSpent (occurrences m f + occurrences m a) n j x
        by_answer true h = omega (arith, l, h)
        by_answer false h = (omega (arith, l, h.0), h.1)
