-- The cuts that a search finds.
use Rattle.std.proofs.Common.{◌≡◌, ◌≢◌, ℕ, ◌<◌, ◌≤◌, ◌+◌, List, [], ◌∷◌, ◌++◌, length, ap, ◌∙◌, subst, get_or, set, take, drop, refl, arith, zero, suc, inl, inr, ◌⊎◌}
use Rattle.std.specs.Prelude.{T}
use Rattle.std.proofs.lemmas.Grind.{common_steps}
use Rattle.std.proofs.lemmas.List.Concat.{flat_map-append}
use Rattle.std.specs.FinMap.{is_sorted}
use Rattle.std.specs.FinMap.Entries.{below_all}
use Rattle.std.specs.Cmp.{IsTotalOrder}
use Rattle.std.specs.declared.cmp.Ordering.{Ordering}
use Rattle.std.specs.declared.cmp.Ordering.TheVariants.{Less}
use Rattle.shared_map.specs.Blocks.{joined, NoneEmpty}
use Rattle.shared_map.specs.Search.{IsPlace, cmp_first}
use Rattle.shared_map.proofs.Around.{Around, AllLess, less_before, above_after, sorted_right}

pub cut : {A : Type 0} (xs : List A) (i : ℕ) (d : A) → i < length xs → xs ≡ take i xs ++ get_or xs i d ∷ drop (i + 1) xs
cut xs i d lt = grind (arith, common_steps)

-- the cut after a change of one element
pub set_cut : {A : Type 0} (xs : List A) (i : ℕ) (x : A) → i < length xs → set xs i x ≡ take i xs ++ x ∷ drop (i + 1) xs
set_cut [] i x lt = absurd (omega arith)
set_cut (y ∷ xs) zero x lt = refl
set_cut (y ∷ xs) (suc i) x lt =
    let n : suc i + 1 ≡ suc (i + 1) = omega arith in
    rw n (ap (λ l. y ∷ l) (set_cut xs i x (omega arith)))

-- the same where a further element stands behind the changed one
pub set_two : {A : Type 0} (xs : List A) (i : ℕ) (a b : A) → i < length xs → set (take (i + 1) xs ++ b ∷ drop (i + 1) xs) i a ≡ take i xs ++ a ∷ b ∷ drop (i + 1) xs
set_two [] i a b lt = absurd (omega arith)
set_two (y ∷ xs) zero a b lt = refl
set_two (y ∷ xs) (suc i) a b lt =
    let n : suc i + 1 ≡ suc (i + 1) = omega arith in
    rw n (ap (λ l. y ∷ l) (set_two xs i a b (omega arith)))

pub same_element : {A : Type 0} (xs : List A) (i : ℕ) (d e : A) → i < length xs → get_or xs i d ≡ get_or xs i e
same_element [] i d e lt = absurd (omega arith)
same_element (x ∷ xs) zero d e lt = refl
same_element (x ∷ xs) (suc i) d e lt = same_element xs i d e (omega arith)

within_or : (i n : ℕ) → (i < n) ⊎ (n ≤ i)
within_or i n = grind arith

pub joined_cut : {A : Type 0} (ps : List (List A)) (i : ℕ) → i < length ps → joined ps ≡ joined (take i ps) ++ (get_or ps i [] ++ joined (drop (i + 1) ps))
joined_cut ps i lt = ap joined (cut ps i [] lt) ∙ flat_map-append (λ b. b) (take i ps) (get_or ps i [] ∷ drop (i + 1) ps)

pub full_at : {A : Type 0} (ps : List (List A)) (i : ℕ) → NoneEmpty ps → i < length ps → 0 < length (get_or ps i [])
full_at [] i f lt = absurd (omega arith)
full_at (p ∷ ps) zero f lt = f.0
full_at (p ∷ ps) (suc i) f lt = full_at ps i f.1 (omega arith)

module _ {K X : Type 0} (R : K → K → Ordering) (o : IsTotalOrder R) where
  pub entry_around : (q : K) (es : List (K × X)) (i : ℕ) (d : K × X) → T (is_sorted R es) → IsPlace (λ e. R q e.0) es i → Around R q (take i es) (drop (i + 1) es)
  entry_around q es i d s h = record {
    less = elim (within_or 0 i) [
      | inl lt ↦ less_before R o q (take i es) (get_or es i d) (drop (i + 1) es) (subst (λ l. T (is_sorted R l)) (cut es i d h.within) s) (h.low d lt)
      | inr ge ↦ let z : i ≡ 0 = omega arith in rw z tt
    ];
    above = elim (within_or (i + 1) (length es)) [
      | inl lt ↦
          let c : es ≡ take (i + 1) es ++ get_or es (i + 1) d ∷ drop (i + 1 + 1) es = cut es (i + 1) d lt in
          let e : drop (i + 1) es ≡ get_or es (i + 1) d ∷ drop (i + 1 + 1) es = grind (arith, common_steps) in
          rw e (above_after R o q (get_or es (i + 1) d) (drop (i + 1 + 1) es) (sorted_right R (take (i + 1) es) _ (subst (λ l. T (is_sorted R l)) c s)) (h.high d lt))
      | inr ge ↦ let z : drop (i + 1) es ≡ [] = grind (arith, common_steps) in rw z tt
    ];
  }

  less_part : (q : K) (before here after : List (K × X)) → T (is_sorted R (before ++ (here ++ after))) → 0 < length here → cmp_first R q here ≢ Less → AllLess R q before
  less_part q before [] after s f n = absurd (omega arith)
  less_part q before (e ∷ es) after s f n = less_before R o q before e (es ++ after) s n

  above_part : (q : K) (before here after : List (K × X)) → T (is_sorted R (before ++ (here ++ after))) → 0 < length here → cmp_first R q here ≡ Less → T (below_all R q (here ++ after))
  above_part q before [] after s f n = absurd (omega arith)
  above_part q before (e ∷ es) after s f n = above_after R o q e (es ++ after) (sorted_right R before _ s) n

  pub place_around : (q : K) (ps : List (List (K × X))) (i : ℕ) → T (is_sorted R (joined ps)) → NoneEmpty ps → IsPlace (cmp_first R q) ps i → Around R q (joined (take i ps)) (joined (drop (i + 1) ps))
  place_around q ps i s f h = record {
    less = elim (within_or 0 i) [
      | inl lt ↦ less_part q (joined (take i ps)) (get_or ps i []) (joined (drop (i + 1) ps)) (subst (λ l. T (is_sorted R l)) (joined_cut ps i h.within) s) (full_at ps i f h.within) (h.low [] lt)
      | inr ge ↦ let z : i ≡ 0 = omega arith in rw z tt
    ];
    above = elim (within_or (i + 1) (length ps)) [
      | inl lt ↦
          let e : drop (i + 1) ps ≡ get_or ps (i + 1) [] ∷ drop (i + 1 + 1) ps = grind (arith, common_steps) in
          rw e (above_part q (joined (take (i + 1) ps)) (get_or ps (i + 1) []) (joined (drop (i + 1 + 1) ps)) (subst (λ l. T (is_sorted R l)) (joined_cut ps (i + 1) lt) s) (full_at ps (i + 1) f lt) (h.high [] lt))
      | inr ge ↦ let z : drop (i + 1) ps ≡ [] = grind (arith, common_steps) in rw z tt
    ];
  }
