-- The faults of elaboration from those of the calls below. Want of memory and of fuel, and too many metavariables, stand for themselves.
use Rattle.ld_terms.specs.declared.halt.Halt.{Halt}
use Rattle.ld_terms.specs.declared.halt.Halt.TheVariants as halt
use Rattle.pattern_unify.specs.declared.fault.UnifyFault.{UnifyFault}
use Rattle.pattern_unify.specs.declared.fault.UnifyFault.TheVariants as inner
use Rattle.elaborate.specs.declared.fault.ElabFault.{ElabFault}
use Rattle.elaborate.specs.declared.fault.ElabFault.TheVariants as fault

abbrev pub unify_fault : {H : Type 0} → UnifyFault H → ElabFault H
unify_fault inner.TooManyMetas = fault.TooManyMetas
unify_fault inner.Fuel = fault.Fuel
unify_fault inner.Memory = fault.Memory
unify_fault e = fault.Unify e

abbrev pub halt_fault : {H : Type 0} → Halt → ElabFault H
halt_fault halt.Fuel = fault.Fuel
halt_fault halt.Memory = fault.Memory
