-- Why a unification is refused.
use Rattle.std.specs.Prelude.{ℕ, List}
use Rattle.ld_trees.specs.Term.{Term}
use Rattle.ld_terms.specs.declared.globals.Decl.{Decl}
use Rattle.conversion.specs.Runs.{Refusal as KernelRefusal, Run}
use Rattle.unification.specs.Steps as steps

pub data Refusal : Type 0 where
  -- a type or a sort isn't found
  Kernel : KernelRefusal → Refusal
  -- weak head forms with other heads, or other numbers of arguments, in a context of so many entries
  Mismatch : (depth : ℕ) (found wanted : Term) → Refusal
  -- an unassigned metavariable at the head, and neither side is a pattern
  NotPattern : (m : ℕ) → Refusal
  -- a variable of this level stands in the term by which m would be solved, and isn't among m's arguments
  Scope : (m level : ℕ) → Refusal
  -- the value of m would depend on m, or m has got one meanwhile
  Cycle : (m : ℕ) → Refusal
  -- the type of m, that of an entry of its context, or its value is too deep
  TooDeep : (m : ℕ) → Refusal
  -- as many metavariables are declared as there can be
  TooManyMetas : Refusal

abbrev pub Step : Type 0 → Type 0
Step A = steps.Step Refusal A

abbrev pub kernel_step : {A : Type 0} → Run A → Step A
kernel_step m = steps.kernel_call Kernel m

-- metavariables, in plain trees, by their numbers
abbrev pub Plain : Type 0
Plain = List (Decl Term)

-- a call that may unify two terms in metavariables, in a context of so many entries
abbrev pub Unifies : Type 0
Unifies = Plain → ℕ → Term → Term → Step Plain
