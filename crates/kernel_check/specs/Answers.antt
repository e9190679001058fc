-- What calls of the kernel answer, where their definition gives an outcome.
use Rattle.std.specs.Prelude.{◌≡◌, ℕ, Result, Ok, Err}
use Rattle.ld_trees.specs.Term.{Term, Srt}
use Rattle.ld_rules.specs.Environment.{Ctx, Env}
use Rattle.ld_terms.specs.declared.halt.Halt.{Halt}
use Rattle.ld_terms.specs.declared.halt.Halt.TheVariants as halt
use Rattle.conversion.specs.Runs.{NotType, NotFunction, Mismatch, ReductIllTyped, Outcome, Gave, Refused, OutOfFuel, Run, pure, ◌>>=◌}
use Rattle.kernel_check.specs.Inference.{infer_sort}
use Rattle.kernel_check.specs.declared.fault.KernelFault.{KernelFault}
use Rattle.kernel_check.specs.declared.fault.KernelFault.TheVariants as fault

-- the fault of an engine below
abbrev pub fault_of : {H : Type 0} → Halt → KernelFault H
fault_of halt.Fuel = fault.Fuel
fault_of halt.Memory = fault.Memory

-- another refusal in the place of each
abbrev pub refused_as : {H : Type 0} → KernelFault H → KernelFault H → KernelFault H
refused_as q fault.Fuel = fault.Fuel
refused_as q fault.Memory = fault.Memory
refused_as q _ = q

-- A fault shows the refusal of an outcome, with terms of the store and the units that are left, or that a unit was wanted and none
-- was left. Want of memory shows nothing of the outcome.
abbrev pub Shows : {A H : Type 0} → (H → Type 0) → (H → Term) → Outcome A → ℕ → KernelFault H → Type 0
Shows holds means o left (fault.NotType n t) = (o ≡ Refused (NotType n (means t)) left) × holds t
Shows holds means o left (fault.NotFunction n t f) = (o ≡ Refused (NotFunction n (means t) (means f)) left) × holds t × holds f
Shows holds means o left (fault.Mismatch n f w) = (o ≡ Refused (Mismatch n (means f) (means w)) left) × holds f × holds w
Shows holds means o left (fault.ReductIllTyped n t r) = (o ≡ Refused (ReductIllTyped n (means t) (means r)) left) × holds t × holds r
Shows holds means o left fault.Fuel = (o ≡ OutOfFuel) × (left ≡ 0)
Shows holds means o left fault.Memory = Unit {0}

-- the outcome's value with the units that are left, or a fault that shows its refusal
abbrev pub Answers : {A H R : Type 0} → (H → Type 0) → (H → Term) → (R → A) → Outcome A → ℕ → Result R (KernelFault H) → Type 0
Answers holds means value o left (Ok r) = o ≡ Gave (value r) left
Answers holds means value o left (Err e) = Shows holds means o left e

-- the sort of a term, as a term
abbrev pub sort_term : Env → Ctx → Term → Run Term
sort_term Δ Γ t = infer_sort Δ Γ t >>= (λ s. pure (Srt s))
