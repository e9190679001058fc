-- How the answers of a move's calls follow from those of their parts.
use Rattle.std.proofs.Common.{◌≡◌, ℕ, Result, Ok, Err, refl, sym, ap, ◌∙◌, subst}
use Rattle.std.specs.Prelude.{IsErrAnd}
use Rattle.ld_trees.specs.Term.{Term}
use Rattle.ld_terms.specs.Views.{Keeps}
use Rattle.ld_terms.specs.declared.halt.Halt.{Halt}
use Rattle.ld_terms.specs.declared.halt.Halt.TheVariants as halt
use Rattle.conversion.specs.Answers.{IsAnswer}
use Rattle.conversion.specs.Runs.{Refusal as KernelRefusal, Outcome as KernelOutcome, NotType, NotFunction, Mismatch as Unlike, ReductIllTyped}
use Rattle.kernel_check.specs.declared.fault.KernelFault.{KernelFault}
use Rattle.kernel_check.specs.declared.fault.KernelFault.TheVariants as kernel
use Rattle.unification.specs.Refusals as unification
use Rattle.unification.specs.Steps.{Outcome, Gave, Refused, OutOfFuel, Step, go_on, renamed, ran}
use Rattle.pattern_unify.specs.Answers.{ShowsKernel, ShowsUnify}
use Rattle.pattern_unify.specs.declared.fault.UnifyFault.{UnifyFault}
use Rattle.pattern_unify.specs.declared.fault.UnifyFault.TheVariants as unify
use Rattle.elaboration.specs.Refusals as elaboration
use Rattle.elaborate.specs.Answers.{ShowsElab}
use Rattle.elaborate.specs.declared.fault.ElabFault.{ElabFault}
use Rattle.elaborate.specs.declared.fault.ElabFault.TheVariants as elab
use Rattle.move_set.specs.declared.fault.MoveFault.{MoveFault}
use Rattle.move_set.specs.declared.fault.MoveFault.TheVariants as fault
use Rattle.move_set.specs.Refusals.{Refusal, Elab, from_elaboration, from_unification}
use Rattle.move_set.specs.Faults.{elab_fault, unify_fault, halt_fault}
use Rattle.move_set.specs.Answers.{Shows, ShowsRefusal, Answers}

pub renamed_gave : {Q R A : Type 0} (f : Q → R) (o : Outcome Q A) (x : A) (k : ℕ) → o ≡ Gave x k → renamed f o ≡ Gave x k
renamed_gave f o x k e = ap (renamed f) e

-- ---- a fault shows the refusal of another outcome that is refused where the first one is, also over a store that has grown

module _ {H : Type 0} (p q : H → Type 0) (m n : H → Term) (kept : Keeps p m q n) where
  module _ {R Q A B : Type 0} (o : Outcome R A) (w : Outcome Q B) (g : R → Q) (left left' : ℕ) (refused : (r : R) → o ≡ Refused r left → w ≡ Refused (g r) left') where
    one : (into : Term → R) (t : H) → (o ≡ Refused (into (m t)) left) × p t → (w ≡ Refused (g (into (n t))) left') × q t
    one into t h = let k = kept t h.1 in (refused (into (m t)) h.0 ∙ ap (λ x. Refused (g (into x)) left') (sym k.1), k.0)

    two : (into : Term → Term → R) (t u : H) → (o ≡ Refused (into (m t) (m u)) left) × p t × p u → (w ≡ Refused (g (into (n t) (n u))) left') × q t × q u
    two into t u h =
        let k = kept t h.1 in
        let l = kept u h.2 in
        (refused (into (m t) (m u)) h.0 ∙ ap (λ x. Refused (g (into x (m u))) left') (sym k.1) ∙ ap (λ y. Refused (g (into (n t) y)) left') (sym l.1), k.0, l.0)

    pub kernel_through : (into : KernelRefusal → R) (e : KernelFault H) → ShowsKernel into p m o left e → ShowsKernel (λ r. g (into r)) q n w left' e
    kernel_through into (kernel.NotType d t) h = one (λ x. into (NotType d x)) t h
    kernel_through into (kernel.NotFunction d t u) h = two (λ x y. into (NotFunction d x y)) t u h
    kernel_through into (kernel.Mismatch d t u) h = two (λ x y. into (Unlike d x y)) t u h
    kernel_through into (kernel.ReductIllTyped d t u) h = two (λ x y. into (ReductIllTyped d x y)) t u h
    kernel_through into kernel.Fuel h = absurd h
    kernel_through into kernel.Memory h = absurd h

    module _ (short : o ≡ OutOfFuel → left ≡ 0 → (w ≡ OutOfFuel) × (left' ≡ 0)) where
      pub unify_through : (into : unification.Refusal → R) (e : UnifyFault H) → ShowsUnify into p m o left e → ShowsUnify (λ r. g (into r)) q n w left' e
      unify_through into (unify.Kernel e) h = kernel_through (λ r. into (unification.Kernel r)) e h
      unify_through into (unify.Mismatch d t u) h = two (λ x y. into (unification.Mismatch d x y)) t u h
      unify_through into (unify.NotPattern k) h = refused _ h
      unify_through into (unify.Scope k level) h = refused _ h
      unify_through into (unify.Cycle k) h = refused _ h
      unify_through into (unify.TooDeep k) h = refused _ h
      unify_through into unify.TooManyMetas h = refused _ h
      unify_through into unify.Fuel h = short h.0 h.1
      unify_through into unify.Memory h = tt

      pub elab_through : (into : elaboration.Refusal → R) (e : ElabFault H) → ShowsElab into p m o left e → ShowsElab (λ r. g (into r)) q n w left' e
      elab_through into (elab.Unify e) h = (h.0, unify_through (λ r. into (elaboration.Unify r)) e h.1)
      elab_through into (elab.UnknownName at name) h = refused _ h
      elab_through into (elab.WrongCount at name given wanted) h = refused _ h
      elab_through into (elab.NoExpected at) h = refused _ h
      elab_through into (elab.NotFunction d t u) h = two (λ x y. into (elaboration.NotFunction d x y)) t u h
      elab_through into (elab.NotType d t) h = one (λ x. into (elaboration.NotType d x)) t h
      elab_through into elab.TooManyMetas h = refused _ h
      elab_through into elab.Fuel h = short h.0 h.1
      elab_through into elab.Memory h = tt

  -- the same of a move's faults
  module _ {A B : Type 0} (o : Outcome Refusal A) (w : Outcome Refusal B) (left left' : ℕ) (refused : (r : Refusal) → o ≡ Refused r left → w ≡ Refused r left') (short : o ≡ OutOfFuel → left ≡ 0 → (w ≡ OutOfFuel) × (left' ≡ 0)) where
    pub move_through : (e : MoveFault H) → Shows p m o left e → Shows q n w left' e
    move_through (fault.Syntax at) h = refused _ h
    move_through (fault.NoGoal index count) h = refused _ h
    move_through (fault.NameTaken name) h = refused _ h
    move_through fault.NotProduct h = refused _ h
    move_through fault.NoAssumption h = refused _ h
    move_through (fault.NotDefined name) h = refused _ h
    move_through (fault.NoOccurrence name) h = refused _ h
    move_through (fault.Unsolved at) h = refused _ h
    move_through (fault.Elab e) h = (h.0, elab_through o w (λ r. r) left left' refused short (λ r. Elab r) e h.1)
    move_through fault.TooManyMetas h = refused _ h
    move_through fault.Fuel h = short h.0 h.1
    move_through fault.Memory h = tt

pub keeps_itself : {H : Type 0} (p : H → Type 0) (m : H → Term) → Keeps p m p m
keeps_itself p m h is = (is, refl)

module _ {H : Type 0} (holds : H → Type 0) (means : H → Term) where
  -- a fault that is passed on
  pub residual : {B R : Type 0} (value : R → B) (o : Outcome Refusal B) (left : ℕ) (r : Result R (MoveFault H)) (e : MoveFault H)
      → IsErrAnd r (λ x. x ≡ e) → Shows holds means o left e → Answers holds means value o left r
  residual value o left (Ok x) e s h = absurd s
  residual value o left (Err x) e s h = subst (Shows holds means o left) (sym s) h

  -- a call that goes on has the refusal of its first part
  pub shows_more : {A B : Type 0} (o : Outcome Refusal A) (f : A → Step Refusal B) (left : ℕ) (e : MoveFault H) → Shows holds means o left e → Shows holds means (go_on o f) left e
  shows_more o f left e h = move_through holds holds means means (keeps_itself holds means) o (go_on o f) left left (λ r s. ap (λ z. go_on z f) s) (λ s z. (ap (λ z. go_on z f) s, z)) e h

  -- a fault of a part that is passed on is the whole's
  pub fails : {A B R : Type 0} (value : R → B) (whole : Outcome Refusal B) (o : Outcome Refusal A) (f : A → Step Refusal B) (left : ℕ) (r : Result R (MoveFault H)) (e : MoveFault H)
      → whole ≡ go_on o f → IsErrAnd r (λ x. x ≡ e) → Shows holds means o left e → Answers holds means value whole left r
  fails value whole o f left r e s t h = residual value whole left r e t (subst (λ z. Shows holds means z left e) (sym s) (shows_more o f left e h))

  -- an answer of the last part is the whole's
  pub answers : {B R : Type 0} (value : R → B) (whole o : Outcome Refusal B) (left : ℕ) (r : Result R (MoveFault H)) → whole ≡ o → Answers holds means value o left r → Answers holds means value whole left r
  answers value whole o left r s h = subst (λ z. Answers holds means value z left r) (sym s) h

  -- ---- faults of the calls below

  module _ {A : Type 0} (o : Outcome elaboration.Refusal A) (left : ℕ) where
    elab_again : (e : ElabFault H) → ShowsElab (λ r. r) holds means o left e → ShowsElab (λ r. from_elaboration r) holds means (renamed from_elaboration o) left e
    elab_again e h = elab_through holds holds means means (keeps_itself holds means) o (renamed from_elaboration o) from_elaboration left left (λ r s. ap (renamed from_elaboration) s) (λ s z. (ap (renamed from_elaboration) s, z)) (λ r. r) e h

    pub elab_shows : (e : ElabFault H) → ShowsElab (λ r. r) holds means o left e → Shows holds means (renamed from_elaboration o) left (elab_fault e)
    elab_shows (elab.Unify e) h = (tt, elab_again (elab.Unify e) h)
    elab_shows (elab.UnknownName at name) h = (tt, elab_again (elab.UnknownName at name) h)
    elab_shows (elab.WrongCount at name given wanted) h = (tt, elab_again (elab.WrongCount at name given wanted) h)
    elab_shows (elab.NoExpected at) h = (tt, elab_again (elab.NoExpected at) h)
    elab_shows (elab.NotFunction d t u) h = (tt, elab_again (elab.NotFunction d t u) h)
    elab_shows (elab.NotType d t) h = (tt, elab_again (elab.NotType d t) h)
    elab_shows elab.TooManyMetas h = elab_again elab.TooManyMetas h
    elab_shows elab.Fuel h = elab_again elab.Fuel h
    elab_shows elab.Memory h = tt

  module _ {A : Type 0} (o : Outcome unification.Refusal A) (left : ℕ) where
    unify_again : (e : UnifyFault H) → ShowsUnify (λ r. r) holds means o left e → ShowsUnify (λ r. from_unification r) holds means (renamed from_unification o) left e
    unify_again e h = unify_through holds holds means means (keeps_itself holds means) o (renamed from_unification o) from_unification left left (λ r s. ap (renamed from_unification) s) (λ s z. (ap (renamed from_unification) s, z)) (λ r. r) e h

    pub unify_shows : (e : UnifyFault H) → ShowsUnify (λ r. r) holds means o left e → Shows holds means (renamed from_unification o) left (unify_fault e)
    unify_shows (unify.Kernel e) h = (tt, (tt, unify_again (unify.Kernel e) h))
    unify_shows (unify.Mismatch d t u) h = (tt, (tt, unify_again (unify.Mismatch d t u) h))
    unify_shows (unify.NotPattern k) h = (tt, (tt, unify_again (unify.NotPattern k) h))
    unify_shows (unify.Scope k level) h = (tt, (tt, unify_again (unify.Scope k level) h))
    unify_shows (unify.Cycle k) h = (tt, (tt, unify_again (unify.Cycle k) h))
    unify_shows (unify.TooDeep k) h = (tt, (tt, unify_again (unify.TooDeep k) h))
    unify_shows unify.TooManyMetas h = unify_again unify.TooManyMetas h
    unify_shows unify.Fuel h = unify_again unify.Fuel h
    unify_shows unify.Memory h = tt

  pub halt_shows : {A B : Type 0} (value : B → A) (f : KernelRefusal → Refusal) (o : KernelOutcome A) (left : ℕ) (h : Halt) → IsAnswer value o left (Err h) → Shows holds means (ran f o) left (halt_fault h)
  halt_shows value f o left halt.Fuel h = (ap (ran f) h.0, h.1)
  halt_shows value f o left halt.Memory h = tt

-- ---- the refusal that a fault shows

same_refusal : {A : Type 0} {R : Type 0} (o : Outcome R A) (r s : R) (k : ℕ) → o ≡ Refused r k → o ≡ Refused s k → r ≡ s
same_refusal o r s k e f = let q : Refused r k ≡ Refused s k = sym e ∙ f in cc

-- a fault that is a refusal
abbrev pub IsNoHalt : {H : Type 0} → MoveFault H → Type 0
IsNoHalt fault.Fuel = ⊥
IsNoHalt fault.Memory = ⊥
IsNoHalt e = Unit {0}

module _ {H : Type 0} (p : H → Type 0) (m : H → Term) where
  kernel_refused : {R A : Type 0} (into : KernelRefusal → R) (o : Outcome R A) (left : ℕ) (e : KernelFault H) → ShowsKernel into p m o left e → (r : R) × (o ≡ Refused r left)
  kernel_refused into o left (kernel.NotType d t) h = (_, h.0)
  kernel_refused into o left (kernel.NotFunction d t u) h = (_, h.0)
  kernel_refused into o left (kernel.Mismatch d t u) h = (_, h.0)
  kernel_refused into o left (kernel.ReductIllTyped d t u) h = (_, h.0)
  kernel_refused into o left kernel.Fuel h = absurd h
  kernel_refused into o left kernel.Memory h = absurd h

  inner_refused : {A : Type 0} (o : Outcome Refusal A) (left : ℕ) (e : ElabFault H) → Shows p m o left (fault.Elab e) → (r : Refusal) × (o ≡ Refused r left)
  inner_refused o left (elab.Unify (unify.Kernel e)) h = kernel_refused (λ r. Elab (elaboration.Unify (unification.Kernel r))) o left e h.1.1
  inner_refused o left (elab.Unify (unify.Mismatch d t u)) h = (_, h.1.1.0)
  inner_refused o left (elab.Unify (unify.NotPattern k)) h = (_, h.1.1)
  inner_refused o left (elab.Unify (unify.Scope k level)) h = (_, h.1.1)
  inner_refused o left (elab.Unify (unify.Cycle k)) h = (_, h.1.1)
  inner_refused o left (elab.Unify (unify.TooDeep k)) h = (_, h.1.1)
  inner_refused o left (elab.Unify unify.TooManyMetas) h = absurd h.1.0
  inner_refused o left (elab.Unify unify.Fuel) h = absurd h.1.0
  inner_refused o left (elab.Unify unify.Memory) h = absurd h.1.0
  inner_refused o left (elab.UnknownName at name) h = (_, h.1)
  inner_refused o left (elab.WrongCount at name given wanted) h = (_, h.1)
  inner_refused o left (elab.NoExpected at) h = (_, h.1)
  inner_refused o left (elab.NotFunction d t u) h = (_, h.1.0)
  inner_refused o left (elab.NotType d t) h = (_, h.1.0)
  inner_refused o left elab.TooManyMetas h = absurd h.0
  inner_refused o left elab.Fuel h = absurd h.0
  inner_refused o left elab.Memory h = absurd h.0

  pub refused_of : {A : Type 0} (o : Outcome Refusal A) (left : ℕ) (e : MoveFault H) → IsNoHalt e → Shows p m o left e → (r : Refusal) × (o ≡ Refused r left)
  refused_of o left (fault.Syntax at) real h = (_, h)
  refused_of o left (fault.NoGoal index count) real h = (_, h)
  refused_of o left (fault.NameTaken name) real h = (_, h)
  refused_of o left fault.NotProduct real h = (_, h)
  refused_of o left fault.NoAssumption real h = (_, h)
  refused_of o left (fault.NotDefined name) real h = (_, h)
  refused_of o left (fault.NoOccurrence name) real h = (_, h)
  refused_of o left (fault.Unsolved at) real h = (_, h)
  refused_of o left (fault.Elab e) real h = inner_refused o left e h
  refused_of o left fault.TooManyMetas real h = (_, h)
  refused_of o left fault.Fuel real h = absurd real
  refused_of o left fault.Memory real h = absurd real

  -- it is shown whatever units are left
  pub shows_refusal : {A : Type 0} (o : Outcome Refusal A) (left : ℕ) (e : MoveFault H) (r : Refusal) → o ≡ Refused r left → Shows p m o left e → ShowsRefusal p m r e
  shows_refusal o left e r s h =
      let none : Outcome Refusal (Unit {0}) = Refused r 0 in
      move_through p p m m (keeps_itself p m) o none left 0 (λ z f. ap (λ z. Refused z 0) (same_refusal o r z left s f)) (λ f z. absurd (let c : Refused r left ≡ OutOfFuel = sym s ∙ f in cc)) e h

pub no_halt : {H : Type 0} (e : MoveFault H) → (e ≡ fault.Fuel → ⊥) → (e ≡ fault.Memory → ⊥) → IsNoHalt e
no_halt (fault.Syntax at) f g = tt
no_halt (fault.NoGoal index count) f g = tt
no_halt (fault.NameTaken name) f g = tt
no_halt fault.NotProduct f g = tt
no_halt fault.NoAssumption f g = tt
no_halt (fault.NotDefined name) f g = tt
no_halt (fault.NoOccurrence name) f g = tt
no_halt (fault.Unsolved at) f g = tt
no_halt (fault.Elab e) f g = tt
no_halt fault.TooManyMetas f g = tt
no_halt fault.Fuel f g = absurd (f refl)
no_halt fault.Memory f g = absurd (g refl)

-- and it is the refusal of a call that is refused with it
pub refuses : {H : Type 0} (A : Type 0) (p q : H → Type 0) (m n : H → Term) (r : Refusal) (k : ℕ) (e : MoveFault H) → Keeps p m q n → ShowsRefusal p m r e → (let o : Outcome Refusal A = Refused r k in Shows q n o k e)
refuses A p q m n r k e kept h =
    let none : Outcome Refusal (Unit {0}) = Refused r 0 in
    let o : Outcome Refusal A = Refused r k in
    move_through p q m n kept none o 0 k (λ z f. ap (λ z. Refused z k) (same_refusal none r z 0 refl f)) (λ f z. absurd cc) e h
