-- How the answers of unification's calls follow from those of their parts.
use Rattle.std.proofs.Common.{◌≡◌, ℕ, Result, Ok, Err, refl, sym, ap, ◌∙◌, subst}
use Rattle.std.specs.Prelude.{IsErrAnd}
use Rattle.ld_trees.specs.Term.{Sort, Term, Srt}
use Rattle.ld_terms.specs.declared.halt.Halt.{Halt}
use Rattle.ld_terms.specs.declared.halt.Halt.TheVariants as halt
use Rattle.conversion.specs.Answers.{IsAnswer}
use Rattle.conversion.specs.Runs.{Refusal as KernelRefusal, Outcome as KernelOutcome, go_on as runs_on, pure as run_pure}
use Rattle.conversion.specs.Runs as runs
use Rattle.kernel_check.specs.Answers.{Shows as KernelShows}
use Rattle.kernel_check.proofs.Calls.{sort_shows, sort_gave}
use Rattle.kernel_check.specs.declared.fault.KernelFault.{KernelFault}
use Rattle.kernel_check.specs.declared.fault.KernelFault.TheVariants as kernel
use Rattle.unification.specs.Refusals.{Refusal, Kernel}
use Rattle.unification.specs.Steps.{Outcome, Gave, Refused, OutOfFuel, Step, go_on, pure, ran}
use Rattle.pattern_unify.specs.declared.fault.UnifyFault.{UnifyFault}
use Rattle.pattern_unify.specs.declared.fault.UnifyFault.TheVariants as fault
use Rattle.pattern_unify.specs.Answers.{ShowsKernel, ShowsUnify, Shows, Answers}
use Rattle.pattern_unify.specs.Faults.{kernel_fault, halt_fault}

pub after : {R A B : Type 0} (o : Outcome R A) (x : A) (k : ℕ) (f : A → Step R B) → o ≡ Gave x k → go_on o f ≡ f x k
after o x k f e = ap (λ z. go_on z f) e

-- an outcome that goes on from a value
pub next : {R A B : Type 0} (whole : Outcome R B) (o : Outcome R A) (x : A) (k : ℕ) (f : A → Step R B) → whole ≡ go_on o f → o ≡ Gave x k → whole ≡ f x k
next whole o x k f e q = e ∙ after o x k f q

-- one call after another after a third
pub again : {R A B C : Type 0} (o : Outcome R A) (f : A → Step R B) (g : B → Step R C) → go_on (go_on o f) g ≡ go_on o (λ x n. go_on (f x n) g)
again (Gave x n) f g = refl
again (Refused r n) f g = refl
again OutOfFuel f g = refl

module _ {H : Type 0} (holds : H → Type 0) (means : H → Term) where
  -- a fault that is passed on
  pub residual : {B R : Type 0} (value : R → B) (o : Outcome Refusal B) (left : ℕ) (r : Result R (UnifyFault H)) (e : UnifyFault H)
      → IsErrAnd r (λ x. x ≡ e) → Shows holds means o left e → Answers holds means value o left r
  residual value o left (Ok x) e p h = absurd p
  residual value o left (Err x) e p h = subst (Shows holds means o left) (sym p) h

  more_kernel : {R A B : Type 0} (into : KernelRefusal → R) (o : Outcome R A) (f : A → Step R B) (left : ℕ) (e : KernelFault H)
      → ShowsKernel into holds means o left e → ShowsKernel into holds means (go_on o f) left e
  more_kernel into o f left (kernel.NotType n t) h = (ap (λ x. go_on x f) h.0, h.1)
  more_kernel into o f left (kernel.NotFunction n t u) h = (ap (λ x. go_on x f) h.0, h.1, h.2)
  more_kernel into o f left (kernel.Mismatch n t u) h = (ap (λ x. go_on x f) h.0, h.1, h.2)
  more_kernel into o f left (kernel.ReductIllTyped n t u) h = (ap (λ x. go_on x f) h.0, h.1, h.2)
  more_kernel into o f left kernel.Fuel h = absurd h
  more_kernel into o f left kernel.Memory h = absurd h

  -- a call that goes on has the refusal of its first part
  pub more_unify : {R A B : Type 0} (into : Refusal → R) (o : Outcome R A) (f : A → Step R B) (left : ℕ) (e : UnifyFault H)
      → ShowsUnify into holds means o left e → ShowsUnify into holds means (go_on o f) left e
  more_unify into o f left (fault.Kernel e) h = more_kernel (λ r. into (Kernel r)) o f left e h
  more_unify into o f left (fault.Mismatch n t u) h = (ap (λ x. go_on x f) h.0, h.1, h.2)
  more_unify into o f left (fault.NotPattern m) h = ap (λ x. go_on x f) h
  more_unify into o f left (fault.Scope m level) h = ap (λ x. go_on x f) h
  more_unify into o f left (fault.Cycle m) h = ap (λ x. go_on x f) h
  more_unify into o f left (fault.TooDeep m) h = ap (λ x. go_on x f) h
  more_unify into o f left fault.TooManyMetas h = ap (λ x. go_on x f) h
  more_unify into o f left fault.Fuel h = (ap (λ x. go_on x f) h.0, h.1)
  more_unify into o f left fault.Memory h = tt

  pub shows_more : {A B : Type 0} (o : Outcome Refusal A) (f : A → Step Refusal B) (left : ℕ) (e : UnifyFault H) → Shows holds means o left e → Shows holds means (go_on o f) left e
  shows_more o f left e h = more_unify (λ r. r) o f left e h

  -- a fault of a part that is passed on is the whole's
  pub fails : {A B R : Type 0} (value : R → B) (whole : Outcome Refusal B) (o : Outcome Refusal A) (f : A → Step Refusal B) (left : ℕ) (r : Result R (UnifyFault H)) (e : UnifyFault H)
      → whole ≡ go_on o f → IsErrAnd r (λ x. x ≡ e) → Shows holds means o left e → Answers holds means value whole left r
  fails value whole o f left r e q p h = residual value whole left r e p (subst (λ z. Shows holds means z left e) (sym q) (shows_more o f left e h))

  -- and of the last part
  pub fails_last : {B R : Type 0} (value : R → B) (whole o : Outcome Refusal B) (left : ℕ) (r : Result R (UnifyFault H)) (e : UnifyFault H)
      → whole ≡ o → IsErrAnd r (λ x. x ≡ e) → Shows holds means o left e → Answers holds means value whole left r
  fails_last value whole o left r e q p h = residual value whole left r e p (subst (λ z. Shows holds means z left e) (sym q) h)

  -- an answer of the last part is the whole's
  pub answers_as : {B R : Type 0} (value : R → B) (whole o : Outcome Refusal B) (left : ℕ) (r : Result R (UnifyFault H)) → whole ≡ o → Answers holds means value o left r → Answers holds means value whole left r
  answers_as value whole o left r q h = subst (λ z. Answers holds means value z left r) (sym q) h

  -- and after a value that of what follows
  pub shows_after : {A B : Type 0} (o : Outcome Refusal A) (x : A) (k : ℕ) (f : A → Step Refusal B) (left : ℕ) (e : UnifyFault H) → o ≡ Gave x k → Shows holds means (f x k) left e → Shows holds means (go_on o f) left e
  shows_after o x k f left e q h = subst (λ z. Shows holds means z left e) (sym (after o x k f q)) h

  pub answers_after : {A B R : Type 0} (value : R → B) (o : Outcome Refusal A) (x : A) (k : ℕ) (f : A → Step Refusal B) (left : ℕ) (r : Result R (UnifyFault H)) → o ≡ Gave x k → Answers holds means value (f x k) left r → Answers holds means value (go_on o f) left r
  answers_after value o x k f left r q h = answers_as value (go_on o f) (f x k) left r (after o x k f q) h

  -- ---- faults of the calls below

  pub kernel_shows : {A : Type 0} (o : KernelOutcome A) (left : ℕ) (e : KernelFault H) → KernelShows holds means o left e → Shows holds means (ran Kernel o) left (kernel_fault e)
  kernel_shows o left (kernel.NotType n t) h = (ap (ran Kernel) h.0, h.1)
  kernel_shows o left (kernel.NotFunction n t f) h = (ap (ran Kernel) h.0, h.1, h.2)
  kernel_shows o left (kernel.Mismatch n f w) h = (ap (ran Kernel) h.0, h.1, h.2)
  kernel_shows o left (kernel.ReductIllTyped n t r) h = (ap (ran Kernel) h.0, h.1, h.2)
  kernel_shows o left kernel.Fuel h = (ap (ran Kernel) h.0, h.1)
  kernel_shows o left kernel.Memory h = tt

  pub halt_shows : {A B : Type 0} (value : B → A) (o : KernelOutcome A) (left : ℕ) (h : Halt) → IsAnswer value o left (Err h) → Shows holds means (ran Kernel o) left (halt_fault h)
  halt_shows value o left halt.Fuel h = (ap (ran Kernel) h.0, h.1)
  halt_shows value o left halt.Memory h = tt

  -- the sort of a type is wanted, but not which
  pub sorted_shows : (o : KernelOutcome Sort) (left : ℕ) (e : KernelFault H) → KernelShows holds means (runs_on o (λ s. run_pure (Srt s))) left e
      → Shows holds means (go_on (ran Kernel o) (λ _. pure {A = Unit {0}} tt)) left (kernel_fault e)
  sorted_shows o left e h = shows_more (ran Kernel o) (λ _. pure {A = Unit {0}} tt) left (kernel_fault e) (kernel_shows o left e (sort_shows holds means o left e h))

pub sorted_gave : (o : KernelOutcome Sort) (T : Term) (left : ℕ) → runs_on o (λ s. run_pure (Srt s)) ≡ runs.Gave T left → go_on (ran {R = Refusal} Kernel o) (λ _. pure {A = Unit {0}} tt) ≡ Gave tt left
sorted_gave o T left e = let s = sort_gave o T left e in ap (λ o. go_on (ran {R = Refusal} Kernel o) (λ _. pure {A = Unit {0}} tt)) s.1
