-- The faults of unification from those of the calls below. Want of memory and of fuel stand for themselves.
use Rattle.ld_terms.specs.declared.halt.Halt.{Halt}
use Rattle.ld_terms.specs.declared.halt.Halt.TheVariants as halt
use Rattle.kernel_check.specs.declared.fault.KernelFault.{KernelFault}
use Rattle.kernel_check.specs.declared.fault.KernelFault.TheVariants as kernel
use Rattle.meta_context.specs.declared.fault.MetaFault.{MetaFault}
use Rattle.meta_context.specs.declared.fault.MetaFault.TheVariants as meta
use Rattle.pattern_unify.specs.declared.fault.UnifyFault.{UnifyFault}
use Rattle.pattern_unify.specs.declared.fault.UnifyFault.TheVariants as fault

abbrev pub kernel_fault : {H : Type 0} → KernelFault H → UnifyFault H
kernel_fault kernel.Fuel = fault.Fuel
kernel_fault kernel.Memory = fault.Memory
kernel_fault e = fault.Kernel e

abbrev pub halt_fault : {H : Type 0} → Halt → UnifyFault H
halt_fault halt.Fuel = fault.Fuel
halt_fault halt.Memory = fault.Memory

abbrev pub meta_fault : {H : Type 0} → MetaFault → UnifyFault H
meta_fault meta.TooManyMetas = fault.TooManyMetas
meta_fault (meta.TooDeep m) = fault.TooDeep m
meta_fault meta.Memory = fault.Memory
