-- Why an elaboration is refused.
use Rattle.std.specs.Prelude.{ℕ}
use Rattle.ld_trees.specs.Term.{Term}
use Rattle.term_syntax.specs.Lex.{Text}
use Rattle.conversion.specs.Runs.{Run}
use Rattle.unification.specs.Refusals as unification
use Rattle.unification.specs.Steps as steps

pub data Refusal : Type 0 where
  -- a unification, a declaration or the kernel refuses
  Unify : unification.Refusal → Refusal
  -- no variable and no item has the name
  UnknownName : (at : ℕ) (name : Text) → Refusal
  -- a constant with another number of arguments than it has parameters
  WrongCount : (at : ℕ) (name : Text) (given wanted : ℕ) → Refusal
  -- a hole where no type is wanted
  NoExpected : (at : ℕ) → Refusal
  -- a term that is applied, with its type, whose weak head form is no product; in a context of so many entries
  NotFunction : (depth : ℕ) (term found : Term) → Refusal
  -- a term that was to be a type is none
  NotType : (depth : ℕ) (term : Term) → Refusal
  -- as many metavariables are declared as there can be
  TooManyMetas : Refusal

abbrev pub Step : Type 0 → Type 0
Step A = steps.Step Refusal A

-- a refusal of unification
abbrev pub from_unification : unification.Refusal → Refusal
from_unification unification.TooManyMetas = TooManyMetas
from_unification r = Unify r

abbrev pub unify_step : {A : Type 0} → unification.Step A → Step A
unify_step m = steps.with_refusals from_unification m

abbrev pub kernel_step : {A : Type 0} → Run A → Step A
kernel_step m = steps.kernel_call (λ r. Unify (unification.Kernel r)) m
