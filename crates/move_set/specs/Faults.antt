-- The faults of a move from those of the calls below. Want of memory and of fuel, and too many metavariables, stand for themselves.
use Rattle.ld_terms.specs.declared.halt.Halt.{Halt}
use Rattle.ld_terms.specs.declared.halt.Halt.TheVariants as halt
use Rattle.term_syntax.specs.declared.fault.ReadFault.{ReadFault}
use Rattle.term_syntax.specs.declared.fault.ReadFault.TheVariants as read
use Rattle.pattern_unify.specs.declared.fault.UnifyFault.{UnifyFault}
use Rattle.elaborate.specs.declared.fault.ElabFault.{ElabFault}
use Rattle.elaborate.specs.declared.fault.ElabFault.TheVariants as inner
use Rattle.elaborate.specs.Faults as elaborate
use Rattle.move_set.specs.declared.fault.MoveFault.{MoveFault}
use Rattle.move_set.specs.declared.fault.MoveFault.TheVariants as fault

abbrev pub read_fault : {H : Type 0} → ReadFault → MoveFault H
read_fault (read.Syntax at) = fault.Syntax at
read_fault read.Memory = fault.Memory

abbrev pub elab_fault : {H : Type 0} → ElabFault H → MoveFault H
elab_fault inner.TooManyMetas = fault.TooManyMetas
elab_fault inner.Fuel = fault.Fuel
elab_fault inner.Memory = fault.Memory
elab_fault e = fault.Elab e

abbrev pub unify_fault : {H : Type 0} → UnifyFault H → MoveFault H
unify_fault e = elab_fault (elaborate.unify_fault e)

abbrev pub halt_fault : {H : Type 0} → Halt → MoveFault H
halt_fault halt.Fuel = fault.Fuel
halt_fault halt.Memory = fault.Memory
