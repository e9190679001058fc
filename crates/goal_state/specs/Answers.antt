-- What a start answers, where its definition says what it gives.
use Rattle.std.specs.Prelude.{◌≡◌, ℕ, List, [], true, false, Result, Ok, Err}
use Rattle.ld_trees.specs.Term.{Term, none, ◌▹◌}
use Rattle.ld_terms.specs.declared.globals.Decl.{Decl}
use Rattle.conversion.specs.Runs.{Outcome, Gave}
use Rattle.kernel_check.specs.Answers.{Shows}
use Rattle.kernel_check.specs.declared.fault.KernelFault.{KernelFault}
use Rattle.kernel_check.specs.declared.fault.KernelFault.TheVariants as kernel
use Rattle.meta_context.specs.Limits.{is_too_deep}
use Rattle.meta_context.specs.Declaring.{declared}
use Rattle.goal_state.specs.State.{State}
use Rattle.goal_state.specs.StoredState.{StoredState, plain_state}
use Rattle.goal_state.specs.Starting.{Started, TooDeep, Inferred}
use Rattle.goal_state.specs.declared.fault.StartFault.{StartFault}
use Rattle.goal_state.specs.declared.fault.StartFault.TheVariants as fault

-- the fault of the kernel, of which want of memory is its own
abbrev pub start_fault : {H : Type 0} → KernelFault H → StartFault H
start_fault kernel.Memory = fault.Memory
start_fault e = fault.Kernel e

-- a fault of the kernel shows what inference leads to, and isn't want of memory
abbrev pub ShowsRefusal : {A H : Type 0} → (H → Type 0) → (H → Term) → Outcome A → ℕ → KernelFault H → Type 0
ShowsRefusal holds means o left kernel.Memory = ⊥
ShowsRefusal holds means o left e = Shows holds means o left e

-- A fault shows that the type is too deep, which leaves the units as they were, or the kernel's refusal with terms of the store, or
-- that a unit was wanted and none was left. Want of memory shows nothing.
abbrev pub ShowsStart : {H : Type 0} → (H → Type 0) → (H → Term) → Started → ℕ → ℕ → StartFault H → Type 0
ShowsStart holds means o units left (fault.Kernel e) = (r : Outcome State) × (o ≡ Inferred r) × ShowsRefusal holds means r left e
ShowsStart holds means o units left (fault.TooDeep m) = (o ≡ TooDeep m) × (left ≡ units)
ShowsStart holds means o units left fault.Memory = Unit {0}

-- the state with the units that are left, or a fault
abbrev pub Starts : {T H : Type 0} → (T → H → Type 0) → (T → H → Term) → T → Started → ℕ → ℕ → Result (StoredState T H) (StartFault H) → Type 0
Starts holds means terms o units left (Ok s) = o ≡ Inferred (Gave (plain_state means s) left)
Starts holds means terms o units left (Err e) = ShowsStart (holds terms) (means terms) o units left e

-- metavariable 0 alone, over the empty context with the type, unless that is too deep; want of memory may come at any time
abbrev pub DeclaresFirst : {H : Type 0} → (H → Term) → H → Result (List (Decl H)) (StartFault H) → Type 0
DeclaresFirst means ty (Ok ds) = (is_too_deep (none ▹ means ty) ≡ false) × (ds ≡ declared [] ty [])
DeclaresFirst means ty (Err (fault.TooDeep m)) = (is_too_deep (none ▹ means ty) ≡ true) × (m ≡ 0)
DeclaresFirst means ty (Err (fault.Kernel e)) = ⊥
DeclaresFirst means ty (Err fault.Memory) = Unit {0}
