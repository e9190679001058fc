-- Units that are spent for the occurrences of a constant.
use Rattle.std.proofs.Common.{◌≡◌, ℕ, zero, suc, ◌+◌, ◌<◌, ◌≤◌, List, [], ◌∷◌, Bool, true, false, length, take, drop, map, get_or, refl, ap, arith}
use Rattle.ld_trees.specs.Term.{Term, Terms, ◌▹◌}
use Rattle.ld_terms.specs.Views.{terms_onto, terms_of}
use Rattle.term_syntax.specs.Lex.{Text}
use Rattle.unification.specs.Steps.{Gave, OutOfFuel, spend_each}
use Rattle.pattern_unify.specs.Walks.{IsSpent}
use Rattle.pattern_unify.proofs.Onto.{done_and_rest, one_more_done}
use Rattle.move_set.specs.Refusals.{Refusal}
use Rattle.move_set.specs.Replacing.{occurrences, occurrences_in}

-- units that are spent, and too few of them
pub spent_each : (k before after : ℕ) → IsSpent k before after true → spend_each {R = Refusal} k before ≡ Gave tt after
spent_each zero before after e = ap (λ n. Gave tt n) (let q : before ≡ after = omega (arith, e) in q)
spent_each (suc k) zero after e = absurd (omega (arith, e))
spent_each (suc k) (suc before) after e = spent_each k before after (omega (arith, e))

pub too_few : (k before after : ℕ) → IsSpent k before after false → spend_each {R = Refusal} k before ≡ OutOfFuel
too_few zero before after e = absurd (omega (arith, e.0))
too_few (suc k) zero after e = refl
too_few (suc k) (suc before) after e = too_few k before after ((let l = e.0 in omega arith), e.1)

-- ---- in several terms

module _ (a : Text) where
  occurrences_onto : (us : Terms) (xs : List Term) → occurrences_in a us ≤ occurrences_in a (terms_onto us xs)
  occurrences_onto us [] = omega arith
  occurrences_onto us (x ∷ xs) = omega (arith, occurrences_onto (us ▹ x) xs)

  module _ {H : Type 0} (means : H → Term) (hs : List H) (i : ℕ) (h : H) (l : i < length hs) (e : h ≡ get_or hs i h) where
    next : occurrences_in a (terms_of (map means (take (i + 1) hs))) ≡ occurrences_in a (terms_of (map means (take i hs))) + occurrences a (means h)
    next = ap (occurrences_in a) (one_more_done means hs i h l e)

    pub each_spent : (n k j : ℕ) (r : Bool) → r ≡ true → IsSpent (occurrences_in a (terms_of (map means (take i hs)))) n k true → IsSpent (occurrences a (means h)) k j r → IsSpent (occurrences_in a (terms_of (map means (take (i + 1) hs)))) n j true
    each_spent n k j false q s b = absurd (grind (arith, q))
    each_spent n k j true q s b = omega (arith, next, s, b)

    pub each_short : (n k j : ℕ) (r : Bool) → r ≡ false → IsSpent (occurrences_in a (terms_of (map means (take i hs)))) n k true → IsSpent (occurrences a (means h)) k j r → IsSpent (occurrences_in a (terms_of (map means hs))) n j false
    each_short n k j true q s b = absurd (grind (arith, q))
    each_short n k j false q s b = (omega (arith, next, s, b.0, occurrences_onto (terms_of (map means (take (i + 1) hs))) (map means (drop (i + 1) hs)), ap (occurrences_in a) (done_and_rest means hs (i + 1))), b.1)
