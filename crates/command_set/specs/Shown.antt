-- Faults that can be shown.
use Rattle.std.specs.Prelude.{Option, Some, None}
use Rattle.book_reader.specs.declared.fault.BookFault.{BookFault}
use Rattle.book_reader.specs.declared.fault.BookFault.TheVariants as fault
use Rattle.kernel_check.specs.declared.fault.KernelFault.{KernelFault}
use Rattle.kernel_check.specs.declared.fault.KernelFault.TheVariants as kernel
use Rattle.goal_state.specs.declared.fault.StartFault.{StartFault}
use Rattle.goal_state.specs.declared.fault.StartFault.TheVariants as start
use Rattle.pattern_unify.specs.declared.fault.UnifyFault.{UnifyFault}
use Rattle.pattern_unify.specs.declared.fault.UnifyFault.TheVariants as unify
use Rattle.elaborate.specs.declared.fault.ElabFault.{ElabFault}
use Rattle.elaborate.specs.declared.fault.ElabFault.TheVariants as elab
use Rattle.move_set.specs.declared.fault.MoveFault.{MoveFault}
use Rattle.move_set.specs.declared.fault.MoveFault.TheVariants as move
use Rattle.reply_text.specs.Showable.{IsShowable}

-- the terms of a fault of the kernel are terms of the store
abbrev pub IsShownFault : {H : Type 0} → (H → Type 0) → BookFault H → Type 0
IsShownFault holds (fault.Kernel item e) = IsShowable holds e
IsShownFault holds _ = Unit {0}

abbrev pub IsShownStart : {H : Type 0} → (H → Type 0) → StartFault H → Type 0
IsShownStart holds (start.Kernel e) = IsShowable holds e
IsShownStart holds _ = Unit {0}

-- there is a store, and the terms of the fault are its terms
abbrev pub IsShownIn : {T H : Type 0} → (T → H → Type 0) → Option T → KernelFault H → Type 0
IsShownIn holds None e = ⊥
IsShownIn holds (Some t) e = IsShowable (holds t) e

abbrev pub IsShownUnify : {T H : Type 0} → (T → H → Type 0) → Option T → UnifyFault H → Type 0
IsShownUnify holds terms (unify.Kernel e) = IsShownIn holds terms e
IsShownUnify holds terms (unify.Mismatch n f w) = IsShownIn holds terms (kernel.Mismatch n f w)
IsShownUnify holds terms _ = Unit {0}

abbrev pub IsShownElab : {T H : Type 0} → (T → H → Type 0) → Option T → ElabFault H → Type 0
IsShownElab holds terms (elab.Unify e) = IsShownUnify holds terms e
IsShownElab holds terms (elab.NotFunction n t f) = IsShownIn holds terms (kernel.NotFunction n t f)
IsShownElab holds terms (elab.NotType n t) = IsShownIn holds terms (kernel.NotType n t)
IsShownElab holds terms _ = Unit {0}

abbrev pub IsShownMove : {T H : Type 0} → (T → H → Type 0) → Option T → MoveFault H → Type 0
IsShownMove holds terms (move.Elab e) = IsShownElab holds terms e
IsShownMove holds terms _ = Unit {0}
