-- Faults of the kernel over a store, and what of them can be shown.
use Rattle.std.specs.Prelude.{ℕ, Option}
use Rattle.ld_trees.specs.Term.{Term}
use Rattle.kernel_check.specs.declared.fault.KernelFault.{KernelFault}
use Rattle.kernel_check.specs.declared.fault.KernelFault.TheVariants as fault
use Rattle.conversion.specs.Runs.{NotType, NotFunction, Mismatch, ReductIllTyped}
use Rattle.reply_text.specs.Members.{Members}
use Rattle.reply_text.specs.Refusals.{kernel, out_of_fuel, nothing}

-- the terms of a fault are terms of the store
abbrev pub IsShowable : {H : Type 0} → (H → Type 0) → KernelFault H → Type 0
IsShowable holds (fault.NotType n t) = holds t
IsShowable holds (fault.NotFunction n t f) = holds t × holds f
IsShowable holds (fault.Mismatch n f w) = holds f × holds w
IsShowable holds (fault.ReductIllTyped n t r) = holds t × holds r
IsShowable holds fault.Fuel = Unit {0}
IsShowable holds fault.Memory = Unit {0}

-- the reply that a fault of the kernel makes
unfoldable pub fault_members : {H : Type 0} → (H → Term) → Option ℕ → KernelFault H → Members
fault_members means item (fault.NotType n t) = kernel item (NotType n (means t))
fault_members means item (fault.NotFunction n t f) = kernel item (NotFunction n (means t) (means f))
fault_members means item (fault.Mismatch n f w) = kernel item (Mismatch n (means f) (means w))
fault_members means item (fault.ReductIllTyped n t r) = kernel item (ReductIllTyped n (means t) (means r))
fault_members means item fault.Fuel = out_of_fuel item
fault_members means item fault.Memory = nothing
