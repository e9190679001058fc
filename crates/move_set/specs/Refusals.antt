-- Why a move makes no new state.
use Rattle.std.specs.Prelude.{ℕ}
use Rattle.term_syntax.specs.Lex.{Text}
use Rattle.conversion.specs.Runs.{Run}
use Rattle.unification.specs.Steps as steps
use Rattle.unification.specs.Refusals as unification
use Rattle.elaboration.specs.Refusals as elaboration

pub data Refusal : Type 0 where
  -- the text isn't one move: the place of the first token, or of the bad byte, with which no move continues
  Syntax : (at : ℕ) → Refusal
  -- the index isn't below the number of active goals
  NoGoal : (index count : ℕ) → Refusal
  -- an entry of the goal's context has the name
  NameTaken : (name : Text) → Refusal
  -- the goal's type at weak head form is no product
  NotProduct : Refusal
  -- no entry of the goal's context has a type that unifies with the goal's
  NoAssumption : Refusal
  -- no definition of the environment has the name
  NotDefined : (name : Text) → Refusal
  -- the constant doesn't stand in the goal's type
  NoOccurrence : (name : Text) → Refusal
  -- a `?` where none may stand, or a `_` that is still open at the end of the move
  Unsolved : (at : ℕ) → Refusal
  -- the elaboration of the move's term, or a unification, a declaration or the kernel, refuses
  Elab : elaboration.Refusal → Refusal
  -- as many metavariables are declared as a state may have
  TooManyMetas : Refusal

abbrev pub Outcome : Type 0 → Type 0
Outcome A = steps.Outcome Refusal A

abbrev pub Step : Type 0 → Type 0
Step A = steps.Step Refusal A

-- a refusal of elaboration, and one of unification
abbrev pub from_elaboration : elaboration.Refusal → Refusal
from_elaboration elaboration.TooManyMetas = TooManyMetas
from_elaboration r = Elab r

abbrev pub from_unification : unification.Refusal → Refusal
from_unification r = from_elaboration (elaboration.from_unification r)

abbrev pub elab_step : {A : Type 0} → elaboration.Step A → Step A
elab_step m = steps.with_refusals from_elaboration m

abbrev pub unify_step : {A : Type 0} → unification.Step A → Step A
unify_step m = steps.with_refusals from_unification m

abbrev pub kernel_step : {A : Type 0} → Run A → Step A
kernel_step m = steps.kernel_call (λ r. from_unification (unification.Kernel r)) m
