-- Refusals and faults whose terms are scoped at the depth that they show.
use Rattle.std.specs.Prelude.{ℕ, ◌<◌, ◌≤◌, ◌+◌}
use Rattle.ld_trees.specs.Term.{Term, count, depth}
use Rattle.ld_rules.specs.Environment.{Ctx, Env}
use Rattle.ld_rules.specs.ScopedItems.{IsScopedAt}
use Rattle.conversion.specs.Runs.{Refusal, NotType, NotFunction, Mismatch, ReductIllTyped}
use Rattle.kernel_check.specs.declared.fault.KernelFault.{KernelFault}
use Rattle.kernel_check.specs.declared.fault.KernelFault.TheVariants as fault

-- each term of a refusal is scoped in an environment at the refusal's depth
abbrev pub RefusalIsScoped : Env → Refusal → Type 0
RefusalIsScoped Δ (NotType n t) = IsScopedAt Δ n t
RefusalIsScoped Δ (NotFunction n t f) = IsScopedAt Δ n t × IsScopedAt Δ n f
RefusalIsScoped Δ (Mismatch n f w) = IsScopedAt Δ n f × IsScopedAt Δ n w
RefusalIsScoped Δ (ReductIllTyped n t r) = IsScopedAt Δ n t × IsScopedAt Δ n r

-- the length of the context in which the terms of a refusal stand
abbrev pub depth_of : Refusal → ℕ
depth_of (NotType n t) = n
depth_of (NotFunction n t f) = n
depth_of (Mismatch n f w) = n
depth_of (ReductIllTyped n t r) = n

-- a depth that a term reaches in a context: at least the context's length, and greater by less than the depth of the term
abbrev pub IsReached : Ctx → Term → ℕ → Type 0
IsReached Γ t n = (count Γ ≤ n) × (n < count Γ + depth t)

-- a refusal shows scoped terms, at a depth that the refused term reaches in its context
abbrev pub RefusalIsShown : Env → Ctx → Term → Refusal → Type 0
RefusalIsShown Δ Γ t r = RefusalIsScoped Δ r × IsReached Γ t (depth_of r)

-- so does a fault; want of fuel or of memory shows no term
abbrev pub FaultIsShown : {H : Type 0} → (H → Term) → Env → Ctx → Term → KernelFault H → Type 0
FaultIsShown means Δ Γ t (fault.NotType n x) = IsScopedAt Δ n (means x) × IsReached Γ t n
FaultIsShown means Δ Γ t (fault.NotFunction n x f) = IsScopedAt Δ n (means x) × IsScopedAt Δ n (means f) × IsReached Γ t n
FaultIsShown means Δ Γ t (fault.Mismatch n f w) = IsScopedAt Δ n (means f) × IsScopedAt Δ n (means w) × IsReached Γ t n
FaultIsShown means Δ Γ t (fault.ReductIllTyped n x r) = IsScopedAt Δ n (means x) × IsScopedAt Δ n (means r) × IsReached Γ t n
FaultIsShown means Δ Γ t fault.Fuel = Unit {0}
FaultIsShown means Δ Γ t fault.Memory = Unit {0}
