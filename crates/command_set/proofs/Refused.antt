-- What the faults of moves show is what the replies say.
use Rattle.std.proofs.Common.{◌≡◌, ℕ, Option, Some, None, ap, sym, subst}
use Rattle.ld_trees.specs.Term.{Term}
use Rattle.conversion.specs.Runs.{Refusal as KernelRefusal}
use Rattle.kernel_check.specs.declared.fault.KernelFault.{KernelFault}
use Rattle.kernel_check.specs.declared.fault.KernelFault.TheVariants as kernel
use Rattle.unification.specs.Steps.{Outcome}
use Rattle.unification.specs.Refusals as unification
use Rattle.elaboration.specs.Refusals as elaboration
use Rattle.pattern_unify.specs.Answers.{ShowsKernel, ShowsUnify}
use Rattle.pattern_unify.specs.declared.fault.UnifyFault.{UnifyFault}
use Rattle.pattern_unify.specs.declared.fault.UnifyFault.TheVariants as unify
use Rattle.elaborate.specs.Answers.{ShowsElab}
use Rattle.elaborate.specs.declared.fault.ElabFault.{ElabFault}
use Rattle.elaborate.specs.declared.fault.ElabFault.TheVariants as elab
use Rattle.goal_state.specs.State.{State}
use Rattle.move_set.specs.Answers.{IsBeside, IsRefused, unify_shows_terms, elab_shows_terms}
use Rattle.move_set.specs.Refusals as move
use Rattle.move_set.specs.declared.fault.MoveFault.{MoveFault}
use Rattle.move_set.specs.declared.fault.MoveFault.TheVariants as fault
use Rattle.reply_text.specs.Showable.{IsShowable, fault_members}
use Rattle.command_set.specs.Goals.{says, made, move_refusal}
use Rattle.command_set.specs.Shown.{IsShownIn, IsShownUnify, IsShownElab, IsShownMove}

-- a refusal of the kernel, as one of a move
pub kernel_refused : {H : Type 0} (holds : H → Type 0) (means : H → Term) (o : move.Outcome State) (left : ℕ) (e : KernelFault H)
    → ShowsKernel (λ r. move.Elab (elaboration.Unify (unification.Kernel r))) holds means o left e → made o ≡ says (fault_members means None e)
unfolding fault_members move_refusal
kernel_refused holds means o left (kernel.NotType n x) s = ap made s.0
kernel_refused holds means o left (kernel.NotFunction n x y) s = ap made s.0
kernel_refused holds means o left (kernel.Mismatch n x y) s = ap made s.0
kernel_refused holds means o left (kernel.ReductIllTyped n x y) s = ap made s.0
kernel_refused holds means o left kernel.Fuel s = absurd s
kernel_refused holds means o left kernel.Memory s = absurd s

-- ---- the terms of a fault are terms of the store

kernel_showable : {R A H : Type 0} (into : KernelRefusal → R) (holds : H → Type 0) (means : H → Term) (o : Outcome R A) (left : ℕ) (e : KernelFault H)
    → ShowsKernel into holds means o left e → IsShowable holds e
kernel_showable into holds means o left (kernel.NotType n x) s = s.1
kernel_showable into holds means o left (kernel.NotFunction n x y) s = (s.1, s.2)
kernel_showable into holds means o left (kernel.Mismatch n x y) s = (s.1, s.2)
kernel_showable into holds means o left (kernel.ReductIllTyped n x y) s = (s.1, s.2)
kernel_showable into holds means o left kernel.Fuel s = absurd s
kernel_showable into holds means o left kernel.Memory s = absurd s

module _ {T H : Type 0} (holds : T → H → Type 0) (means : T → H → Term) where
  shown_in : (terms : Option T) (t : T) (e : KernelFault H) → terms ≡ Some t → IsShowable (holds t) e → IsShownIn holds terms e
  shown_in terms t e at h = subst (λ o. IsShownIn holds o e) (sym at) h

  unify_showable : {R A : Type 0} (into : unification.Refusal → R) (o : Outcome R A) (left : ℕ) (terms : Option T) (t : T) (e : UnifyFault H)
      → IsBeside t terms (unify_shows_terms e) → ShowsUnify into (holds t) (means t) o left e → IsShownUnify holds terms e
  unify_showable into o left terms t (unify.Kernel e) at s = shown_in terms t e at (kernel_showable (λ r. into (unification.Kernel r)) (holds t) (means t) o left e s)
  unify_showable into o left terms t (unify.Mismatch n f w) at s = shown_in terms t (kernel.Mismatch n f w) at (s.1, s.2)
  unify_showable into o left terms t (unify.NotPattern m) at s = tt
  unify_showable into o left terms t (unify.Scope m level) at s = tt
  unify_showable into o left terms t (unify.Cycle m) at s = tt
  unify_showable into o left terms t (unify.TooDeep m) at s = tt
  unify_showable into o left terms t unify.TooManyMetas at s = tt
  unify_showable into o left terms t unify.Fuel at s = tt
  unify_showable into o left terms t unify.Memory at s = tt

  elab_showable : {R A : Type 0} (into : elaboration.Refusal → R) (o : Outcome R A) (left : ℕ) (terms : Option T) (t : T) (e : ElabFault H)
      → IsBeside t terms (elab_shows_terms e) → ShowsElab into (holds t) (means t) o left e → IsShownElab holds terms e
  elab_showable into o left terms t (elab.Unify e) at s = unify_showable (λ r. into (elaboration.Unify r)) o left terms t e at s.1
  elab_showable into o left terms t (elab.NotFunction n x f) at s = shown_in terms t (kernel.NotFunction n x f) at (s.1, s.2)
  elab_showable into o left terms t (elab.NotType n x) at s = shown_in terms t (kernel.NotType n x) at s.1
  elab_showable into o left terms t (elab.UnknownName at' name) at s = tt
  elab_showable into o left terms t (elab.WrongCount at' name given wanted) at s = tt
  elab_showable into o left terms t (elab.NoExpected at') at s = tt
  elab_showable into o left terms t elab.TooManyMetas at s = tt
  elab_showable into o left terms t elab.Fuel at s = tt
  elab_showable into o left terms t elab.Memory at s = tt

  pub move_showable : (o : move.Outcome State) (terms : Option T) (e : MoveFault H) → IsRefused holds means o terms e → IsShownMove holds terms e
  move_showable o terms (fault.Elab e) s = elab_showable (λ r. move.Elab r) o s.2 terms s.0 e s.1 s.3.1
  move_showable o terms (fault.Syntax at) s = tt
  move_showable o terms (fault.NoGoal index count) s = tt
  move_showable o terms (fault.NameTaken name) s = tt
  move_showable o terms fault.NotProduct s = tt
  move_showable o terms fault.NoAssumption s = tt
  move_showable o terms (fault.NotDefined name) s = tt
  move_showable o terms (fault.NoOccurrence name) s = tt
  move_showable o terms (fault.Unsolved at) s = tt
  move_showable o terms fault.TooManyMetas s = tt
  move_showable o terms fault.Fuel s = tt
  move_showable o terms fault.Memory s = tt
