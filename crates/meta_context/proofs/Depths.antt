-- Depths of contexts.
use Rattle.std.proofs.Common.{◌≡◌, inl, inr, ℕ, zero, suc, ◌+◌, ◌<◌, ◌≤◌, max, subst, List, [], ◌∷◌, map, length, get_or, Bool, true, false, nat_lt, refl, ap, sym, ◌∙◌, arith}
use Rattle.std.proofs.lemmas.Bool.Decides.{nat_tests}
use Rattle.ld_trees.specs.Term.{Term, Terms, none, ◌▹◌, depth, depth_all}
use Rattle.ld_terms.specs.Views.{terms_onto}
use Rattle.ld_terms.specs.declared.globals.Local.{Local}
use Rattle.conversion.specs.Globals.{context_of}
use Rattle.meta_trees.proofs.Dependencies.{last_or_less}
use Rattle.meta_context.proofs.Entering.{same_read}

grows : (us : Terms) (xs : List Term) → depth_all us ≤ depth_all (terms_onto us xs)
grows us [] = omega arith
grows us (x ∷ xs) = let h : max (depth_all us) (depth x) ≤ depth_all (terms_onto (us ▹ x) xs) = grows (us ▹ x) xs in omega arith

entry_onto : {H : Type 0} (means : H → Term) (us : Terms) (ls : List (Local H)) (k : ℕ) (l : Local H) → k < length ls → (get_or ls k l) ≡ l → depth (means l.ty) ≤ depth_all (terms_onto us (map (λ (e : Local H). means e.ty) ls))
entry_onto means us [] k l i e = absurd (omega arith)
entry_onto means us (x ∷ ls) zero l i e =
    let h : max (depth_all us) (depth (means x.ty)) ≤ depth_all (terms_onto (us ▹ means x.ty) (map (λ (e : Local _). means e.ty) ls)) = grows (us ▹ means x.ty) (map (λ (e : Local _). means e.ty) ls) in
    let same : depth (means x.ty) ≡ depth (means l.ty) = ap (λ (y : Local _). depth (means y.ty)) e in
    omega arith
entry_onto means us (x ∷ ls) (suc k) l i e = entry_onto means (us ▹ means x.ty) ls k l (omega arith) e

shallow_onto : {H : Type 0} (means : H → Term) (n : ℕ) (us : Terms) (ls : List (Local H)) → depth_all us ≤ n → ((k : ℕ) (l : Local H) → k < length ls → depth (means (get_or ls k l).ty) ≤ n) → depth_all (terms_onto us (map (λ (e : Local H). means e.ty) ls)) ≤ n
shallow_onto means n us [] a f = a
shallow_onto means n us (x ∷ ls) a f = shallow_onto means n (us ▹ means x.ty) ls (let h : depth (means x.ty) ≤ n = f 0 x (omega arith) in omega arith) (λ k l i. f (suc k) l (omega arith))

module _ {H : Type 0} (means : H → Term) (n : ℕ) (ls : List (Local H)) (T : Term) where
  pub deep_entry : (k : ℕ) (l : Local H) → k < length ls → l ≡ get_or ls k l → nat_lt n (depth (means l.ty)) ≡ true → nat_lt n (depth_all (context_of means ls ▹ T)) ≡ true
  deep_entry k l i e d =
      let h : depth (means l.ty) ≤ depth_all (context_of means ls) = entry_onto means none ls k l i (sym e) in
      let deep : n < depth (means l.ty) = grind (arith, nat_tests) in
      let deeper : n < max (depth_all (context_of means ls)) (depth T) = omega arith in
      grind (arith, nat_tests)

  pub shallow_context : ((k : ℕ) (l : Local H) → k < length ls → nat_lt n (depth (means (get_or ls k l).ty)) ≡ false) → nat_lt n (depth T) ≡ nat_lt n (depth_all (context_of means ls ▹ T))
  shallow_context f =
      let h : depth_all (context_of means ls) ≤ n = shallow_onto means n none ls (omega arith) (λ k l i. let q = f k l i in grind (arith, nat_tests)) in
      by_cases (nat_lt n (depth T)) refl h
    where
      by_cases : (b : Bool) → nat_lt n (depth T) ≡ b → depth_all (context_of means ls) ≤ n → b ≡ nat_lt n (max (depth_all (context_of means ls)) (depth T))
      by_cases true e h =
          let deep : n < depth T = grind (arith, nat_tests) in
          let deeper : n < max (depth_all (context_of means ls)) (depth T) = omega arith in
          grind (arith, nat_tests)
      by_cases false e h =
          let low : depth T ≤ n = grind (arith, nat_tests) in
          let lower : max (depth_all (context_of means ls)) (depth T) ≤ n = omega arith in
          grind (arith, nat_tests)

pub shallow_more : {H : Type 0} (means : H → Term) (n : ℕ) (ls : List (Local H)) (i : ℕ) (l : Local H) → i < length ls → l ≡ get_or ls i l → ((k : ℕ) (e : Local H) → k < i → nat_lt n (depth (means (get_or ls k e).ty)) ≡ false) → nat_lt n (depth (means l.ty)) ≡ false → (k : ℕ) (e : Local H) → k < i + 1 → nat_lt n (depth (means (get_or ls k e).ty)) ≡ false
shallow_more means n ls i l b is f s k e c = elim (last_or_less k i (omega arith)) [
  | inr d ↦ f k e d
  | inl d ↦ subst (λ j. nat_lt n (depth (means (get_or ls j e).ty)) ≡ false) (sym d) (subst (λ (y : Local _). nat_lt n (depth (means y.ty)) ≡ false) (is ∙ same_read ls i l e b) s)
]
