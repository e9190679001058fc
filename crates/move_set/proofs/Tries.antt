-- The tries of `assumption`, one by one.
use Rattle.std.proofs.Common.{◌≡◌, ℕ, suc, List, length, Some, refl, ap, ◌∙◌}
use Rattle.ld_trees.specs.Term.{Term}
use Rattle.ld_rules.specs.Environment.{type_at}
use Rattle.ld_terms.specs.declared.globals.Item.{Item}
use Rattle.ld_terms.specs.declared.globals.Decl.{Decl}
use Rattle.meta_context.specs.Plain.{rules_ctx, rules_env}
use Rattle.unification.specs.Steps.{Outcome, Gave, Refused, OutOfFuel, go_on, pure, retry, renamed}
use Rattle.unification.specs.Refusals.{Plain}
use Rattle.unification.specs.Unification.{unify}
use Rattle.pattern_unify.specs.declared.fault.UnifyFault.{UnifyFault}
use Rattle.pattern_unify.specs.declared.fault.UnifyFault.TheVariants as unify_fault
use Rattle.move_set.specs.Refusals.{Refusal, Step, from_unification}
use Rattle.move_set.specs.Faults as faults
use Rattle.move_set.specs.Moves.{fitting, first_fitting}
use Rattle.move_set.proofs.Follow.{IsNoHalt}

module _ (Δ : List (Item Term)) (Σ : Plain) (g : ℕ) (d : Decl Term) (i k n : ℕ) (A : Term) (there : type_at (rules_ctx d.ctx) i ≡ Some A) where
  abbrev later : Refusal → Step (ℕ × Plain)
  later r = first_fitting Δ Σ g d (suc i) k

  abbrev fits : Plain → Step (ℕ × Plain)
  fits more = pure (i, more)

  -- what the unification comes to
  abbrev pub unified : Outcome Refusal Plain
  unified = renamed from_unification (unify (rules_env Δ) Σ (length d.ctx) A d.ty n)

  one_try : first_fitting Δ Σ g d i (suc k) n ≡ retry (go_on unified fits) later
  one_try = ap (λ o. retry (fitting Δ Σ g d i o n) later) there

  pub try_fits : (more : Plain) (left : ℕ) → unified ≡ Gave more left → first_fitting Δ Σ g d i (suc k) n ≡ Gave (i, more) left
  try_fits more left e = one_try ∙ ap (λ o. retry (go_on o fits) later) e

  pub try_refused : (r : Refusal) (left : ℕ) → unified ≡ Refused r left → first_fitting Δ Σ g d i (suc k) n ≡ first_fitting Δ Σ g d (suc i) k left
  try_refused r left e = one_try ∙ ap (λ o. retry (go_on o fits) later) e

  pub try_short : unified ≡ OutOfFuel → first_fitting Δ Σ g d i (suc k) n ≡ OutOfFuel
  try_short e = one_try ∙ ap (λ o. retry (go_on o fits) later) e

-- a fault of unification that is a refusal
pub real_fault : {H : Type 0} (e : UnifyFault H) → (e ≡ unify_fault.Fuel → ⊥) → (e ≡ unify_fault.Memory → ⊥) → IsNoHalt (faults.unify_fault e)
real_fault (unify_fault.Kernel e) f m = tt
real_fault (unify_fault.Mismatch d t u) f m = tt
real_fault (unify_fault.NotPattern k) f m = tt
real_fault (unify_fault.Scope k level) f m = tt
real_fault (unify_fault.Cycle k) f m = tt
real_fault (unify_fault.TooDeep k) f m = tt
real_fault unify_fault.TooManyMetas f m = tt
real_fault unify_fault.Fuel f m = absurd (f refl)
real_fault unify_fault.Memory f m = absurd (m refl)
