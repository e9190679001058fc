-- Weak head form by the step at the head, and its fuel law.
use Rattle.std.proofs.Common.{◌≡◌, ◌≢◌, ℕ, zero, suc, ◌-◌, Option, Some, None, refl, sym, ap, ◌∙◌, subst, arith}
use Rattle.ld_trees.specs.Term.{Term}
use Rattle.ld_rules.specs.Environment.{Env}
use Rattle.conversion.specs.Runs.{Gave, OutOfFuel}
use Rattle.conversion.specs.WeakHead.{head_step, whnf_units, whnf}
use Rattle.conversion.specs.Laws.{WeakHeadFormHasFuelLaw}
use Rattle.conversion.proofs.Runs.{LawAt, Lawful, law_suc, fuel_law}

pub whnf_none : (Δ : Env) (t : Term) → head_step Δ t ≡ None → (n : ℕ) → whnf Δ t n ≡ Gave t n
whnf_none Δ t e zero = rw (e, whnf_units)
whnf_none Δ t e (suc n) = rw (e, whnf_units)

pub whnf_some : (Δ : Env) (t t' : Term) → head_step Δ t ≡ Some t' → (n : ℕ) → whnf Δ t (suc n) ≡ whnf Δ t' n
whnf_some Δ t t' e n = rw (e, whnf_units)

pub whnf_fuel : (Δ : Env) (t t' : Term) → head_step Δ t ≡ Some t' → whnf Δ t 0 ≡ OutOfFuel
whnf_fuel Δ t t' e = rw (e, whnf_units)

law_whnf : (Δ : Env) (n : ℕ) (t : Term) → LawAt (whnf Δ t) n (whnf Δ t n)
law_whnf Δ zero t = go (head_step Δ t) refl
  where
    go : (o : Option Term) → head_step Δ t ≡ o → LawAt (whnf Δ t) 0 (whnf Δ t 0)
    go None e = subst (LawAt (whnf Δ t) 0) (sym (whnf_none Δ t e 0)) (0, refl, λ i j p. whnf_none Δ t e i ∙ ap (Gave t) (omega arith), λ i l. absurd (omega arith))
    go (Some t') e = subst (LawAt (whnf Δ t) 0) (sym (whnf_fuel Δ t t' e)) tt
law_whnf Δ (suc n) t = go (λ t'. law_whnf Δ n t') (head_step Δ t) refl
  where
    go : ((t' : Term) → LawAt (whnf Δ t') n (whnf Δ t' n)) → (o : Option Term) → head_step Δ t ≡ o → LawAt (whnf Δ t) (suc n) (whnf Δ t (suc n))
    go ih None e = subst (LawAt (whnf Δ t) (suc n)) (sym (whnf_none Δ t e (suc n))) (0, omega arith, λ i j p. whnf_none Δ t e i ∙ ap (Gave t) (omega arith), λ i l. absurd (omega arith))
    go ih (Some t') e = subst (LawAt (whnf Δ t) (suc n)) (sym (whnf_some Δ t t' e n)) (law_suc (whnf Δ t) (whnf Δ t') n (whnf Δ t' n) (whnf_fuel Δ t t' e) (whnf_some Δ t t' e) (ih t'))

pub lawful_whnf : (Δ : Env) (t : Term) → Lawful (whnf Δ t)
lawful_whnf Δ t n = law_whnf Δ n t

pub whnf_has_fuel_law : WeakHeadFormHasFuelLaw
whnf_has_fuel_law Δ t = fuel_law (whnf Δ t) (lawful_whnf Δ t)

-- a step where there are units
pub whnf_less : (Δ : Env) (t t' : Term) (n : ℕ) → head_step Δ t ≡ Some t' → n ≢ 0 → whnf Δ t n ≡ whnf Δ t' (n - 1)
whnf_less Δ t t' zero e h = absurd (h refl)
whnf_less Δ t t' (suc n) e h = let q : n ≡ suc n - 1 = omega arith in whnf_some Δ t t' e n ∙ ap (whnf Δ t') q
