-- Renaming by recursion on the tree, under so many binders, is renaming by lifting.
use Rattle.std.proofs.Common.{◌≡◌, ℕ, zero, suc, ◌+◌, ◌-◌, Bool, true, false, nat_lt, refl, ap, ap₂, ◌∙◌, arith, if◌then◌else◌}
use Rattle.std.proofs.Math.Path.{fun_ext}
use Rattle.ld_trees.specs.Term.{Term, Srt, Var, App, Lam, Pi, Con, Terms, none, ◌▹◌}
use Rattle.ld_trees.specs.Substitution.{lift_name, rename, renames}
use Rattle.pattern_unify.specs.Walks.{renamed_at, all_renamed_at}

module _ (r : ℕ → ℕ) where
  -- the renaming under k binders
  abbrev under : ℕ → ℕ → ℕ
  under k i = if nat_lt i k then i else r (i - k) + k

  under_none : (i : ℕ) → under 0 i ≡ r i
  under_none i = by_case (nat_lt i 0) refl
    where
      by_case : (b : Bool) → nat_lt i 0 ≡ b → (if b then i else r (i - 0) + 0) ≡ r i
      by_case true e = absurd (grind (arith, e))
      by_case false e = let z : i - 0 ≡ i = omega arith in (omega arith) ∙ ap r z

  under_one_more : (k i : ℕ) → under (k + 1) i ≡ lift_name (under k) i
  under_one_more k zero = by_case (nat_lt 0 (k + 1)) refl
    where
      by_case : (b : Bool) → nat_lt 0 (k + 1) ≡ b → (if b then 0 else r (0 - (k + 1)) + (k + 1)) ≡ 0
      by_case true e = refl
      by_case false e = absurd (grind (arith, e))
  under_one_more k (suc i) = by_case (nat_lt (suc i) (k + 1)) (nat_lt i k) refl refl
    where
      by_case : (b c : Bool) → nat_lt (suc i) (k + 1) ≡ b → nat_lt i k ≡ c → (if b then suc i else r (suc i - (k + 1)) + (k + 1)) ≡ suc (if c then i else r (i - k) + k)
      by_case true true e f = refl
      by_case true false e f = absurd (grind (arith, e, f))
      by_case false true e f = absurd (grind (arith, e, f))
      by_case false false e f = let z : suc i - (k + 1) ≡ i - k = omega arith in ap (λ n. r n + (k + 1)) z ∙ omega arith

  mutual
    renamed_under : (k : ℕ) (t : Term) → renamed_at r k t ≡ rename (under k) t
    renamed_under k (Srt s) = refl
    renamed_under k (Var i) = refl
    renamed_under k (App f a) = ap₂ App (renamed_under k f) (renamed_under k a)
    renamed_under k (Lam A M) = ap₂ Lam (renamed_under k A) (renamed_under (k + 1) M ∙ ap (λ s. rename s M) (fun_ext (under_one_more k)))
    renamed_under k (Pi A M) = ap₂ Pi (renamed_under k A) (renamed_under (k + 1) M ∙ ap (λ s. rename s M) (fun_ext (under_one_more k)))
    renamed_under k (Con h us) = ap (Con h) (all_renamed_under k us)

    all_renamed_under : (k : ℕ) (us : Terms) → all_renamed_at r k us ≡ renames (under k) us
    all_renamed_under k none = refl
    all_renamed_under k (us ▹ u) = ap₂ ◌▹◌ (all_renamed_under k us) (renamed_under k u)

  pub renamed_is : (t : Term) → renamed_at r 0 t ≡ rename r t
  renamed_is t = renamed_under 0 t ∙ ap (λ s. rename s t) (fun_ext under_none)
