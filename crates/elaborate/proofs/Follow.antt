-- How the answers of elaboration's calls follow from those of their parts.
use Rattle.std.proofs.Common.{◌≡◌, ℕ, Result, Ok, Err, sym, ap, subst}
use Rattle.std.specs.Prelude.{IfOk, IsErrAnd}
use Rattle.ld_trees.specs.Term.{Term}
use Rattle.ld_terms.specs.declared.halt.Halt.{Halt}
use Rattle.ld_terms.specs.declared.halt.Halt.TheVariants as halt
use Rattle.conversion.specs.Answers.{IsAnswer}
use Rattle.conversion.specs.Runs.{Refusal as KernelRefusal, Outcome as KernelOutcome}
use Rattle.kernel_check.specs.declared.fault.KernelFault.{KernelFault}
use Rattle.kernel_check.specs.declared.fault.KernelFault.TheVariants as kernel
use Rattle.unification.specs.Refusals as unification
use Rattle.unification.specs.Steps.{Outcome, Gave, Step, go_on, renamed, ran}
use Rattle.pattern_unify.proofs.Follow.{more_unify}
use Rattle.pattern_unify.specs.Answers.{ShowsKernel, ShowsUnify}
use Rattle.pattern_unify.specs.declared.fault.UnifyFault.{UnifyFault}
use Rattle.pattern_unify.specs.declared.fault.UnifyFault.TheVariants as inner
use Rattle.elaboration.specs.Refusals.{Refusal, Unify, from_unification}
use Rattle.elaborate.specs.declared.fault.ElabFault.{ElabFault}
use Rattle.elaborate.specs.declared.fault.ElabFault.TheVariants as fault
use Rattle.elaborate.specs.Answers.{ShowsElab, Answers}
use Rattle.elaborate.specs.Faults.{unify_fault, halt_fault}

pub renamed_gave : {Q R A : Type 0} (f : Q → R) (o : Outcome Q A) (x : A) (k : ℕ) → o ≡ Gave x k → renamed f o ≡ Gave x k
renamed_gave f o x k e = ap (renamed f) e

module _ {H : Type 0} (holds : H → Type 0) (means : H → Term) where
  abbrev pub Shows : {A : Type 0} → Outcome Refusal A → ℕ → ElabFault H → Type 0
  Shows o left e = ShowsElab (λ r. r) holds means o left e

  -- a fault that is passed on
  pub residual : {B R : Type 0} (value : R → B) (o : Outcome Refusal B) (left : ℕ) (r : Result R (ElabFault H)) (e : ElabFault H)
      → IsErrAnd r (λ x. x ≡ e) → Shows o left e → Answers holds means value o left r
  residual value o left (Ok x) e p h = absurd p
  residual value o left (Err x) e p h = subst (Shows o left) (sym p) h

  -- a call that goes on has the refusal of its first part
  pub shows_more : {A B : Type 0} (o : Outcome Refusal A) (f : A → Step Refusal B) (left : ℕ) (e : ElabFault H) → Shows o left e → Shows (go_on o f) left e
  shows_more o f left (fault.Unify e) h = (h.0, more_unify holds means (λ r. Unify r) o f left e h.1)
  shows_more o f left (fault.UnknownName at name) h = ap (λ x. go_on x f) h
  shows_more o f left (fault.WrongCount at name given wanted) h = ap (λ x. go_on x f) h
  shows_more o f left (fault.NoExpected at) h = ap (λ x. go_on x f) h
  shows_more o f left (fault.NotFunction n t u) h = (ap (λ x. go_on x f) h.0, h.1, h.2)
  shows_more o f left (fault.NotType n t) h = (ap (λ x. go_on x f) h.0, h.1)
  shows_more o f left fault.TooManyMetas h = ap (λ x. go_on x f) h
  shows_more o f left fault.Fuel h = (ap (λ x. go_on x f) h.0, h.1)
  shows_more o f left fault.Memory h = tt

  -- a fault of a part that is passed on is the whole's
  pub fails : {A B R : Type 0} (value : R → B) (whole : Outcome Refusal B) (o : Outcome Refusal A) (f : A → Step Refusal B) (left : ℕ) (r : Result R (ElabFault H)) (e : ElabFault H)
      → whole ≡ go_on o f → IsErrAnd r (λ x. x ≡ e) → Shows o left e → Answers holds means value whole left r
  fails value whole o f left r e q p h = residual value whole left r e p (subst (λ z. Shows z left e) (sym q) (shows_more o f left e h))

  -- and of the last part
  pub fails_last : {B R : Type 0} (value : R → B) (whole o : Outcome Refusal B) (left : ℕ) (r : Result R (ElabFault H)) (e : ElabFault H)
      → whole ≡ o → IsErrAnd r (λ x. x ≡ e) → Shows o left e → Answers holds means value whole left r
  fails_last value whole o left r e q p h = residual value whole left r e p (subst (λ z. Shows z left e) (sym q) h)

  -- an answer of the last part is the whole's
  pub answers : {B R : Type 0} (value : R → B) (whole o : Outcome Refusal B) (left : ℕ) (r : Result R (ElabFault H)) → whole ≡ o → Answers holds means value o left r → Answers holds means value whole left r
  answers value whole o left r q h = subst (λ z. Answers holds means value z left r) (sym q) h

  -- ---- faults of the calls below

  kernel_renamed : {A : Type 0} (o : Outcome unification.Refusal A) (left : ℕ) (e : KernelFault H) → ShowsKernel (λ r. unification.Kernel r) holds means o left e
      → ShowsKernel (λ r. Unify (unification.Kernel r)) holds means (renamed from_unification o) left e
  kernel_renamed o left (kernel.NotType n t) h = (ap (renamed from_unification) h.0, h.1)
  kernel_renamed o left (kernel.NotFunction n t u) h = (ap (renamed from_unification) h.0, h.1, h.2)
  kernel_renamed o left (kernel.Mismatch n t u) h = (ap (renamed from_unification) h.0, h.1, h.2)
  kernel_renamed o left (kernel.ReductIllTyped n t u) h = (ap (renamed from_unification) h.0, h.1, h.2)
  kernel_renamed o left kernel.Fuel h = absurd h
  kernel_renamed o left kernel.Memory h = absurd h

  pub unify_shows : {A : Type 0} (o : Outcome unification.Refusal A) (left : ℕ) (e : UnifyFault H) → ShowsUnify (λ r. r) holds means o left e → Shows (renamed from_unification o) left (unify_fault e)
  unify_shows o left (inner.Kernel e) h = (tt, kernel_renamed o left e h)
  unify_shows o left (inner.Mismatch n t u) h = (tt, (ap (renamed from_unification) h.0, h.1, h.2))
  unify_shows o left (inner.NotPattern m) h = (tt, ap (renamed from_unification) h)
  unify_shows o left (inner.Scope m level) h = (tt, ap (renamed from_unification) h)
  unify_shows o left (inner.Cycle m) h = (tt, ap (renamed from_unification) h)
  unify_shows o left (inner.TooDeep m) h = (tt, ap (renamed from_unification) h)
  unify_shows o left inner.TooManyMetas h = ap (renamed from_unification) h
  unify_shows o left inner.Fuel h = (ap (renamed from_unification) h.0, h.1)
  unify_shows o left inner.Memory h = tt

  pub halt_shows : {A B : Type 0} (value : B → A) (into : KernelRefusal → Refusal) (o : KernelOutcome A) (left : ℕ) (h : Halt) → IsAnswer value o left (Err h) → Shows (ran into o) left (halt_fault h)
  halt_shows value into o left halt.Fuel h = (ap (ran into) h.0, h.1)
  halt_shows value into o left halt.Memory h = tt

-- what holds of each value of an outcome holds of an answer's
pub of_value : {A H R : Type 0} (holds : H → Type 0) (means : H → Term) (value : R → A) (P : A → Type 0) (o : Outcome Refusal A) (left : ℕ) (r : Result R (ElabFault H)) → Answers holds means value o left r
    → ((x : A) → o ≡ Gave x left → P x) → IfOk r (λ x. P (value x))
of_value holds means value P o left (Ok x) a f = f (value x) a
of_value holds means value P o left (Err e) a f = tt
