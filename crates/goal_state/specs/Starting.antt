-- What starting with a type gives.
use Rattle.std.specs.Prelude.{ℕ, List, [], ◌∷◌, None, if◌then◌else◌}
use Rattle.ld_trees.specs.Term.{Term, none, ◌▹◌}
use Rattle.ld_terms.specs.declared.globals.Item.{Item}
use Rattle.conversion.specs.Runs.{Outcome, Run, pure, ◌>>◌}
use Rattle.kernel_check.specs.Inference.{infer_sort}
use Rattle.meta_context.specs.Plain.{rules_env}
use Rattle.meta_context.specs.Limits.{is_too_deep}
use Rattle.goal_state.specs.State.{State}

-- metavariable 0 declared over the empty context with the type, as the one active goal
abbrev pub first_state : List (Item Term) → Term → State
first_state items T = record { items = items; metas = record { ctx = []; ty = T; value = None } ∷ []; goals = 0 ∷ [] }

-- The type is too deep for the metavariable of that number, before any unit is spent; or what the inference of its sort leads to.
pub data Started : Type 0 where
  TooDeep : ℕ → Started
  Inferred : Outcome State → Started

-- the sort of the type is inferred in the environment and the empty context
abbrev pub first_run : List (Item Term) → Term → Run State
first_run items T = infer_sort (rules_env items) none T >> pure (first_state items T)

-- starting with a type, with so many units
abbrev pub started : List (Item Term) → Term → ℕ → Started
started items T n = if is_too_deep (none ▹ T) then TooDeep 0 else Inferred (first_run items T n)
