-- The faults of an item from those of scoping and of the kernel. Want of memory stands for itself.
use Rattle.ld_terms.specs.declared.halt.Halt.{Halt}
use Rattle.ld_terms.specs.declared.halt.Halt.TheVariants as halt
use Rattle.term_syntax.specs.declared.scope_fault.ScopeFault.{ScopeFault}
use Rattle.term_syntax.specs.declared.scope_fault.ScopeFault.TheVariants as scope
use Rattle.kernel_check.specs.declared.fault.KernelFault.{KernelFault}
use Rattle.kernel_check.specs.declared.fault.KernelFault.TheVariants as kernel
use Rattle.book_reader.specs.declared.checked.ItemFault.{ItemFault}
use Rattle.book_reader.specs.declared.checked.ItemFault.TheVariants as fault

abbrev pub scope_fault : {H : Type 0} → ScopeFault → ItemFault H
scope_fault scope.Memory = fault.Memory
scope_fault e = fault.Scope e

abbrev pub kernel_fault : {H : Type 0} → KernelFault H → ItemFault H
kernel_fault kernel.Memory = fault.Memory
kernel_fault e = fault.Kernel e

abbrev pub halt_fault : {H : Type 0} → Halt → ItemFault H
halt_fault halt.Fuel = fault.Kernel kernel.Fuel
halt_fault halt.Memory = fault.Memory
