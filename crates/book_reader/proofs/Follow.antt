-- How the answers of an item's check follow from those of its parts.
use Rattle.std.proofs.Common.{◌≡◌, ℕ, Bool, true, false, List, Result, Ok, Err, refl, sym, ap, ◌∙◌, subst as transport}
use Rattle.std.specs.Prelude.{IsErrAnd}
use Rattle.ld_trees.specs.Term.{Sort, Term, Srt}
use Rattle.ld_terms.specs.declared.halt.Halt.{Halt}
use Rattle.ld_terms.specs.declared.halt.Halt.TheVariants as halt
use Rattle.term_syntax.specs.Scoping.{Resolved}
use Rattle.term_syntax.specs.declared.scope_fault.ScopeFault.{ScopeFault}
use Rattle.term_syntax.specs.declared.scope_fault.ScopeFault.TheVariants as scope
use Rattle.term_text.specs.Scoped.{Refuses}
use Rattle.conversion.specs.Answers.{IsAnswer}
use Rattle.conversion.specs.Conversion.{conv}
use Rattle.ld_terms.specs.declared.globals.Item.{Item}
use Rattle.meta_context.specs.Plain.{rules_env}
use Rattle.conversion.specs.Runs.{Outcome, Gave, go_on as runs_on, pure as run_pure, Mismatch}
use Rattle.kernel_check.specs.Answers.{Shows as KernelShows}
use Rattle.kernel_check.proofs.Calls.{sort_shows, sort_gave}
use Rattle.kernel_check.specs.declared.fault.KernelFault.{KernelFault}
use Rattle.kernel_check.specs.declared.fault.KernelFault.TheVariants as kernel
use Rattle.book_reader.specs.declared.checked.ItemFault.{ItemFault}
use Rattle.book_reader.specs.declared.checked.ItemFault.TheVariants as fault
use Rattle.book_reader.specs.Items.{ItemRefusal, Kernel, Check, go_on, pure, refuse, scoped, ran, choose, fits}
use Rattle.book_reader.specs.Faults.{scope_fault, kernel_fault, halt_fault}
use Rattle.book_reader.specs.Checked.{Shows, Answers}

pub after : {A B : Type 0} (o : Result (A × ℕ) ItemRefusal) (x : A) (k : ℕ) (f : A → Check B) → o ≡ Ok (x, k) → go_on o f ≡ f x k
after o x k f e = ap (λ z. go_on z f) e

module _ {H : Type 0} (holds : H → Type 0) (means : H → Term) where
  -- a fault that is passed on
  pub residual : {B R : Type 0} (value : R → B) (o : Result (B × ℕ) ItemRefusal) (left : ℕ) (r : Result R (ItemFault H)) (e : ItemFault H)
      → IsErrAnd r (λ x. x ≡ e) → Shows holds means o e → Answers holds means value o left r
  residual value o left (Ok x) e p h = absurd p
  residual value o left (Err x) e p h = transport (Shows holds means o) (sym p) h

  -- a check that goes on has the refusal of its first part
  pub shows_more : {A B : Type 0} (o : Result (A × ℕ) ItemRefusal) (f : A → Check B) (e : ItemFault H) → Shows holds means o e → Shows holds means (go_on o f) e
  shows_more o f (fault.NameTaken name) h = ap (λ x. go_on x f) h
  shows_more o f (fault.Scope e) h = (h.0, ap (λ x. go_on x f) h.1, h.2)
  shows_more o f (fault.Kernel e) h = (h.0, ap (λ x. go_on x f) h.1, h.2)
  shows_more o f fault.Memory h = tt

  -- and after a value that of what follows
  pub shows_after : {A B : Type 0} (o : Result (A × ℕ) ItemRefusal) (x : A) (k : ℕ) (f : A → Check B) (e : ItemFault H) → o ≡ Ok (x, k) → Shows holds means (f x k) e → Shows holds means (go_on o f) e
  shows_after o x k f e q h = transport (λ z. Shows holds means z e) (sym (after o x k f q)) h

  pub kernel_shows : {A : Type 0} (o : Outcome A) (left : ℕ) (e : KernelFault H) → KernelShows holds means o left e → Shows holds means (ran o) (kernel_fault e)
  kernel_shows o left (kernel.NotType n t) h = (_, ap ran h.0, (refl, h.1))
  kernel_shows o left (kernel.NotFunction n t f) h = (_, ap ran h.0, (refl, h.1, h.2))
  kernel_shows o left (kernel.Mismatch n f w) h = (_, ap ran h.0, (refl, h.1, h.2))
  kernel_shows o left (kernel.ReductIllTyped n t r) h = (_, ap ran h.0, (refl, h.1, h.2))
  kernel_shows o left kernel.Fuel h = (_, ap ran h.0, refl)
  kernel_shows o left kernel.Memory h = tt

  pub halt_shows : {A : Type 0} (value : A → A) (o : Outcome A) (left : ℕ) (h : Halt) → IsAnswer value o left (Err h) → Shows holds means (ran o) (halt_fault h)
  halt_shows value o left halt.Fuel h = (_, ap ran h.0, refl)
  halt_shows value o left halt.Memory h = tt

  pub scope_shows : (o : Resolved Term) (n : ℕ) (e : ScopeFault) → Refuses o e → Shows holds means (scoped o n) (scope_fault e)
  scope_shows o n scope.Memory h = tt
  scope_shows o n (scope.UnknownName at name) h = (_, ap (λ o. scoped o n) h, refl)
  scope_shows o n (scope.WrongCount at name given wanted) h = (_, ap (λ o. scoped o n) h, refl)
  scope_shows o n (scope.Unsolved at) h = (_, ap (λ o. scoped o n) h, refl)

  -- the sort of a type is wanted, but not which
  pub sorted_shows : (o : Outcome Sort) (left : ℕ) (e : KernelFault H) → KernelShows holds means (runs_on o (λ s. run_pure (Srt s))) left e
      → Shows holds means (go_on (ran o) (λ _. pure {A = Unit {0}} tt)) (kernel_fault e)
  sorted_shows o left e h = shows_more (ran o) (λ _. pure {A = Unit {0}} tt) (kernel_fault e) (kernel_shows o left e (sort_shows holds means o left e h))

pub kernel_gave : {A : Type 0} (o : Outcome A) (x : A) (left : ℕ) → o ≡ Gave x left → ran o ≡ Ok (x, left)
kernel_gave o x left e = ap ran e

pub sorted_gave : (o : Outcome Sort) (T : Term) (left : ℕ) → runs_on o (λ s. run_pure (Srt s)) ≡ Gave T left → go_on (ran o) (λ _. pure {A = Unit {0}} tt) ≡ Ok (tt, left)
sorted_gave o T left e = let s = sort_gave o T left e in ap (λ o. go_on (ran o) (λ _. pure {A = Unit {0}} tt)) s.1

-- conversion of the type that was found with the stated one
pub fits_is : (Δ : List (Item Term)) (depth : ℕ) (F W : Term) (n left : ℕ) (b : Bool) → conv (rules_env Δ) F W n ≡ Gave b left
    → fits Δ depth F W n ≡ choose b (pure {A = Unit {0}} tt) (refuse (Kernel (Mismatch depth F W))) left
fits_is Δ depth F W n left b e = after (ran (conv (rules_env Δ) F W n)) b left (λ equal. choose equal (pure {A = Unit {0}} tt) (refuse (Kernel (Mismatch depth F W)))) (ap ran e)

pub fits_yes : (Δ : List (Item Term)) (depth : ℕ) (F W : Term) (n left : ℕ) (b : Bool) → conv (rules_env Δ) F W n ≡ Gave b left → b ≡ true → fits Δ depth F W n ≡ Ok (tt, left)
fits_yes Δ depth F W n left b e is = fits_is Δ depth F W n left b e ∙ ap (λ b. choose b (pure {A = Unit {0}} tt) (refuse (Kernel (Mismatch depth F W))) left) is

pub fits_no : (Δ : List (Item Term)) (depth : ℕ) (F W : Term) (n left : ℕ) (b : Bool) → conv (rules_env Δ) F W n ≡ Gave b left → b ≡ false → fits Δ depth F W n ≡ Err (Kernel (Mismatch depth F W))
fits_no Δ depth F W n left b e is = fits_is Δ depth F W n left b e ∙ ap (λ b. choose b (pure {A = Unit {0}} tt) (refuse (Kernel (Mismatch depth F W))) left) is
