-- The calls of the kernel answer with scoped terms.
use Rattle.std.proofs.Common.{ℕ, Result, Ok, Err, IfOk, IfErr, subst as transport}
use Rattle.ld_trees.specs.Term.{Term}
use Rattle.ld_rules.specs.Environment.{Ctx, Env}
use Rattle.ld_rules.specs.Derivation.{Derives}
use Rattle.ld_rules.specs.Legality.{IsLegal}
use Rattle.ld_rules.specs.Scoping.{IsScoped}
use Rattle.ld_rules.proofs.KnownConstants.{judgements_are_scoped}
use Rattle.ld_rules.proofs.ScopedItems.{legal_is_scoped}
use Rattle.conversion.specs.Runs.{Outcome}
use Rattle.conversion.proofs.Always.{Holds}
use Rattle.kernel_check.specs.Inference.{infer, infer_sort}
use Rattle.kernel_check.specs.Answers.{Shows, Answers, sort_term}
use Rattle.kernel_check.specs.ScopedFaults.{RefusalIsShown, FaultIsShown}
use Rattle.kernel_check.specs.declared.fault.KernelFault.{KernelFault}
use Rattle.kernel_check.specs.declared.fault.KernelFault.TheVariants as fault
use Rattle.kernel_check.proofs.Calls.{sort_shows}
use Rattle.kernel_check.proofs.ScopedAnswers.{always_infer, always_infer_sort}

module _ {H : Type 0} (holds : H → Type 0) (means : H → Term) (Δ : Env) (Γ : Ctx) (t : Term) where
  -- a fault shows what the refusal shows
  fault_shown : {A : Type 0} (P : A → Type 0) (o : Outcome A) (left : ℕ) (e : KernelFault H) → Shows holds means o left e → Holds P (RefusalIsShown Δ Γ t) o → FaultIsShown means Δ Γ t e
  fault_shown P o left (fault.NotType n x) h k = transport (Holds P (RefusalIsShown Δ Γ t)) h.0 k
  fault_shown P o left (fault.NotFunction n x f) h k = let s = transport (Holds P (RefusalIsShown Δ Γ t)) h.0 k in (s.0.0, s.0.1, s.1)
  fault_shown P o left (fault.Mismatch n f w) h k = let s = transport (Holds P (RefusalIsShown Δ Γ t)) h.0 k in (s.0.0, s.0.1, s.1)
  fault_shown P o left (fault.ReductIllTyped n x r) h k = let s = transport (Holds P (RefusalIsShown Δ Γ t)) h.0 k in (s.0.0, s.0.1, s.1)
  fault_shown P o left fault.Fuel h k = tt
  fault_shown P o left fault.Memory h k = tt

  pub type_shown : (n left : ℕ) (r : Result H (KernelFault H)) → Answers holds means means (infer Δ Γ t n) left r → IsLegal Δ Γ → IsScoped Δ Γ t → IfErr r (FaultIsShown means Δ Γ t)
  type_shown n left (Ok x) a ok k = tt
  type_shown n left (Err e) a ok k = fault_shown (IsScoped Δ Γ) (infer Δ Γ t n) left e a (always_infer Δ Γ t (legal_is_scoped Δ Γ ok) k n)

  pub sort_shown : (n left : ℕ) (r : Result H (KernelFault H)) → Answers holds means means (sort_term Δ Γ t n) left r → IsLegal Δ Γ → IsScoped Δ Γ t → IfErr r (FaultIsShown means Δ Γ t)
  sort_shown n left (Ok x) a ok k = tt
  sort_shown n left (Err e) a ok k = fault_shown (λ _. Unit {0}) (infer_sort Δ Γ t n) left e (sort_shows holds means (infer_sort Δ Γ t n) left e a) (always_infer_sort Δ Γ t (legal_is_scoped Δ Γ ok) k n)

  -- what is derived is scoped
  pub derived_scoped : (r : Result H (KernelFault H)) → IfOk r (λ x. Derives Δ Γ t (means x)) → IfOk r (λ x. IsScoped Δ Γ (means x))
  derived_scoped (Ok x) d = (judgements_are_scoped Δ Γ t (means x) d).3
  derived_scoped (Err e) d = tt
