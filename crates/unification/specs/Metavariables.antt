-- Extending a context, declaring a metavariable and settling one by a value, with units of fuel. Declarations are plain.
use Rattle.std.specs.Prelude.{ℕ, not, ◌&&◌, List, [], ◌∷◌, ◌++◌, length, slice_get, Option, Some, None}
use Rattle.ld_trees.specs.Term.{Term, none, ◌▹◌}
use Rattle.ld_rules.specs.Environment.{Env}
use Rattle.ld_terms.specs.declared.globals.Local.{Local}
use Rattle.ld_terms.specs.declared.globals.Decl.{Decl}
use Rattle.conversion.specs.Globals.{with_metas}
use Rattle.kernel_check.specs.Inference.{infer, infer_sort}
use Rattle.meta_trees.specs.Dependencies.{depends}
use Rattle.meta_context.specs.Plain.{rules_ctx}
use Rattle.meta_context.specs.Declaring as plain
use Rattle.meta_context.specs.Limits.{is_full, is_too_deep}
use Rattle.goal_state.specs.State.{rules_metas, is_open}
use Rattle.unification.specs.Steps.{pure, refuse, ◌>>=◌, ◌>>◌, demand}
use Rattle.unification.specs.Refusals.{Cycle, TooDeep, TooManyMetas, Step, kernel_step, Plain, Unifies}

-- an open metavariable gets a value that doesn't depend on it and isn't too deep
abbrev pub assigned : Plain → ℕ → Term → Step Plain
assigned metas m v = do
  demand (is_open metas m && not (depends (rules_metas metas) (none ▹ v) m)) (Cycle m)
  demand (not (is_too_deep (none ▹ v))) (TooDeep m)
  pure (plain.assigned m v metas)

module _ (Δ : Env) where
  -- what the engines find: the constants, and every metavariable
  abbrev pub reach : Plain → Env
  reach metas = with_metas (λ t. t) 0 metas Δ

  -- a term has a sort in a context
  abbrev pub sorted : Plain → List (Local Term) → Term → Step (Unit {0})
  sorted metas Γ A = kernel_step (infer_sort (reach metas) (rules_ctx Γ) A) >> pure tt

  -- a context extended by an entry of a type that has a sort
  abbrev pub extended : Plain → List (Local Term) → List ℕ → Term → Step (List (Local Term))
  extended metas Γ x A = sorted metas Γ A >> pure (Γ ++ record { name = x; ty = A } ∷ [])

  -- the next metavariable, over a context with a type that has a sort
  abbrev pub declared : Plain → List (Local Term) → Term → Step Plain
  declared metas Γ T = do
    demand (not (is_full metas)) TooManyMetas
    demand (not (is_too_deep (rules_ctx Γ ▹ T))) (TooDeep (length metas))
    sorted metas Γ T
    pure (plain.declared Γ T metas)

  -- Metavariable m, with its declaration, is settled by a value: the value's type is inferred in m's context and unified with m's type,
  -- and in the outcome m gets the value.
  abbrev pub settled_by : Unifies → Plain → ℕ → Term → Option (Decl Term) → Step Plain
  settled_by unify metas m v None = refuse (Cycle m)
  settled_by unify metas m v (Some d) = do
    found ← kernel_step (infer (reach metas) (rules_ctx d.ctx) v)
    after ← unify metas (length d.ctx) found d.ty
    assigned after m v

  abbrev pub settled : Unifies → Plain → ℕ → Term → Step Plain
  settled unify metas m v = settled_by unify metas m v (slice_get metas m)
