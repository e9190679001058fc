-- The parts up to the one that holds a place.
use Rattle.std.proofs.Common.{◌≡◌, ℕ, ◌<◌, ◌≤◌, ◌+◌, ◌/◌, ◌%◌, List, [], ◌++◌, ◌∷◌, length, ap, sym, ◌∙◌, get_or, map, min, take, arith}
use Rattle.std.proofs.lemmas.List.{get_or-take, length-take, take_min, take-take}
use Rattle.std.specs.List.{take-map}
use Rattle.std.proofs.lemmas.Nat.{div-add-mod'}
use Rattle.std.proofs.Math.Nat.{mod-lt}
use Rattle.shared_list.specs.Blocks.{joined, IsFilled}
use Rattle.shared_list.proofs.Filled.{take_part}

filled_take : {A : Type 0} (w : ℕ) (ps : List (List A)) (n : ℕ) → IsFilled w ps → IsFilled w (take n ps)
filled_take w ps n f =
    let m = length-take n ps in
    record {
      full = λ i h. let lt : i < n = omega (arith, m) in rw (get_or-take n ps i [] lt) (f.full i (omega (arith, m)));
      some = λ i h. let lt : i < n = omega (arith, m) in rw (get_or-take n ps i [] lt) (f.some i (omega (arith, m)));
      few = λ i h. let lt : i < n = omega (arith, m) in rw (get_or-take n ps i [] lt) (f.few i (omega (arith, m)));
    }

-- the parts up to that at the place `at` say what stands before `at`
module _ {A : Type 0} (w at : ℕ) (ps : List (List A)) (wide : 0 < w) (f : IsFilled w ps) where
  pub filled_to : IsFilled w (take (at / w + 1) ps)
  filled_to = filled_take w ps (at / w + 1) f

  by_parts : (qs : List (List A)) → IsFilled w qs → take at (joined qs) ≡ joined (take (at / w) qs) ++ take (at % w) (get_or qs (at / w) [])
  by_parts qs g = ap (λ n. take n (joined qs)) (sym (div-add-mod' at w)) ∙ take_part w qs (at / w) (at % w) g (mod-lt at wide)

  same_to : take at (joined (take (at / w + 1) ps)) ≡ take at (joined ps)
  same_to =
      by_parts (take (at / w + 1) ps) filled_to
      ∙ rw (take-take (at / w) (at / w + 1) ps (omega arith), get_or-take (at / w + 1) ps (at / w) [] (omega arith)) (sym (by_parts ps f))

  pub enough_to : at ≤ length (joined ps) → at ≤ length (joined (take (at / w + 1) ps))
  enough_to le = omega (arith, ap length same_to, length-take at (joined (take (at / w + 1) ps)), length-take at (joined ps))

  pub put_to : (x : A) (xs : List A) → xs ≡ take at (joined (take (at / w + 1) ps)) ++ x ∷ [] → xs ≡ take at (joined ps) ++ x ∷ []
  put_to x xs e = e ∙ ap (λ l. l ++ x ∷ []) same_to

-- the first parts, as many as there are
pub first_of : {P A : Type 0} (f : P → A) (ps : List P) (xs : List A) (n count : ℕ) → xs ≡ map f (take n ps) → n ≡ min count (length ps) → xs ≡ take count (map f ps)
first_of f ps xs n count e m = e ∙ rw (m, take_min count ps) (sym (take-map f count ps))
