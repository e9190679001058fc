-- What calls of unification answer, over a store of terms.
use Rattle.std.specs.Prelude.{◌≡◌, ℕ, List, Some, slice_get, Result, Ok, Err}
use Rattle.ld_trees.specs.Term.{Term, none, ◌▹◌}
use Rattle.ld_rules.specs.Environment.{Env}
use Rattle.ld_rules.specs.Reduction.{Equal}
use Rattle.ld_terms.specs.declared.globals.Item.{Item}
use Rattle.ld_terms.specs.declared.globals.Decl.{Decl}
use Rattle.conversion.specs.Runs.{Refusal as KernelRefusal, NotType, NotFunction, Mismatch as Unlike, ReductIllTyped}
use Rattle.kernel_check.specs.declared.fault.KernelFault.{KernelFault}
use Rattle.kernel_check.specs.declared.fault.KernelFault.TheVariants as kernel
use Rattle.meta_context.specs.Plain.{plain_items}
use Rattle.meta_laws.specs.Cut.{cut}
use Rattle.meta_laws.specs.Legality.{IsLegalMetas}
use Rattle.goal_state.specs.State.{plain_metas, rules_metas}
use Rattle.goal_state.specs.Following.{Extend}
use Rattle.unification.specs.Steps.{Outcome, Gave, Refused, OutOfFuel}
use Rattle.unification.specs.Refusals.{Refusal, Kernel, Mismatch, NotPattern, Scope, Cycle, TooDeep, TooManyMetas, Plain}
use Rattle.pattern_unify.specs.declared.fault.UnifyFault.{UnifyFault}
use Rattle.pattern_unify.specs.declared.fault.UnifyFault.TheVariants as fault

-- stored items and metavariables mean plain ones
pub record AreRead {H : Type 0} (means : H → Term) (items : List (Item H)) (metas : List (Decl H)) (Δ : List (Item Term)) (Σ : Plain) : Type 0 where
  pub items_are : plain_items means items ≡ Δ
  pub metas_are : plain_metas means metas ≡ Σ

-- A fault of the kernel shows the outcome's refusal, which is of a kind that holds those of the kernel, with terms of the store and the
-- units that are left. It is never want of fuel or memory.
abbrev pub ShowsKernel : {R A H : Type 0} → (KernelRefusal → R) → (H → Type 0) → (H → Term) → Outcome R A → ℕ → KernelFault H → Type 0
ShowsKernel into holds means o left (kernel.NotType n t) = (o ≡ Refused (into (NotType n (means t))) left) × holds t
ShowsKernel into holds means o left (kernel.NotFunction n t f) = (o ≡ Refused (into (NotFunction n (means t) (means f))) left) × holds t × holds f
ShowsKernel into holds means o left (kernel.Mismatch n f w) = (o ≡ Refused (into (Unlike n (means f) (means w))) left) × holds f × holds w
ShowsKernel into holds means o left (kernel.ReductIllTyped n t r) = (o ≡ Refused (into (ReductIllTyped n (means t) (means r))) left) × holds t × holds r
ShowsKernel into holds means o left kernel.Fuel = ⊥
ShowsKernel into holds means o left kernel.Memory = ⊥

-- A fault of unification shows the outcome's refusal, which is of a kind that holds those of unification, or that a unit was wanted and none
-- was left. Want of memory shows nothing of the outcome.
abbrev pub ShowsUnify : {R A H : Type 0} → (Refusal → R) → (H → Type 0) → (H → Term) → Outcome R A → ℕ → UnifyFault H → Type 0
ShowsUnify into holds means o left (fault.Kernel e) = ShowsKernel (λ r. into (Kernel r)) holds means o left e
ShowsUnify into holds means o left (fault.Mismatch n f w) = (o ≡ Refused (into (Mismatch n (means f) (means w))) left) × holds f × holds w
ShowsUnify into holds means o left (fault.NotPattern m) = o ≡ Refused (into (NotPattern m)) left
ShowsUnify into holds means o left (fault.Scope m level) = o ≡ Refused (into (Scope m level)) left
ShowsUnify into holds means o left (fault.Cycle m) = o ≡ Refused (into (Cycle m)) left
ShowsUnify into holds means o left (fault.TooDeep m) = o ≡ Refused (into (TooDeep m)) left
ShowsUnify into holds means o left fault.TooManyMetas = o ≡ Refused (into TooManyMetas) left
ShowsUnify into holds means o left fault.Fuel = (o ≡ OutOfFuel) × (left ≡ 0)
ShowsUnify into holds means o left fault.Memory = Unit {0}

-- a fault of a call of unification itself
abbrev pub Shows : {A H : Type 0} → (H → Type 0) → (H → Term) → Outcome Refusal A → ℕ → UnifyFault H → Type 0
Shows holds means o left e = ShowsUnify (λ r. r) holds means o left e

-- the value of a call with the units that are left, or a fault that shows its refusal
abbrev pub Answers : {A H R : Type 0} → (H → Type 0) → (H → Term) → (R → A) → Outcome Refusal A → ℕ → Result R (UnifyFault H) → Type 0
Answers holds means value o left (Ok r) = o ≡ Gave (value r) left
Answers holds means value o left (Err e) = Shows holds means o left e

-- the plain metavariables of a pair of metavariables and a number
abbrev pub metas_first : {H : Type 0} → (H → Term) → List (Decl H) × ℕ → Plain
metas_first means r = plain_metas means r.0

-- Legal metavariables behind others, in which each declaration and value of the others stays, and in which two terms are βδ-equal by
-- steps in the environment cut to the dependencies of the two terms.
pub record AreUnified (Δ : Env) (metas after : Plain) (a b : Term) : Type 0 where
  pub legal : IsLegalMetas Δ (rules_metas after)
  pub extend : Extend metas after
  pub equal : Equal (cut (rules_metas after) Δ (none ▹ a ▹ b)) a b

-- Legal metavariables behind others, in which each declaration and value of the others stays, and in which one of them has a value.
pub record AreSettled (Δ : Env) (metas after : Plain) (m : ℕ) (d : Decl Term) (v : Term) : Type 0 where
  pub legal : IsLegalMetas Δ (rules_metas after)
  pub extend : Extend metas after
  pub given : slice_get after m ≡ Some (record { ctx = d.ctx; ty = d.ty; value = Some v })
