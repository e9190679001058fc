-- What may follow a goal state: metavariables that extend its own by declarations and assignments, and goals among them.
use Rattle.std.specs.Prelude.{◌≡◌, ℕ, List, All, Some, slice_get}
use Rattle.ld_trees.specs.Term.{Term}
use Rattle.ld_terms.specs.declared.globals.Decl.{Decl}
use Rattle.meta_context.specs.Plain.{rules_env}
use Rattle.meta_laws.specs.Legality.{IsLegalMetas}
use Rattle.meta_context.specs.Declaring.{IsOpen}
use Rattle.goal_state.specs.State.{State, rules_metas, AreDistinct}

-- a declaration keeps the context, with its names, the type, and the value where there was one
pub record KeepsDecl (d c : Decl Term) : Type 0 where
  pub ctx : c.ctx ≡ d.ctx
  pub ty : c.ty ≡ d.ty
  pub value : (v : Term) → d.value ≡ Some v → c.value ≡ Some v

-- each metavariable that was declared is kept; others may be new, and those without a value may have one now
abbrev pub Extend : List (Decl Term) → List (Decl Term) → Type 0
Extend ds cs = (m : ℕ) (d : Decl Term) → slice_get ds m ≡ Some d → (c : Decl Term) × (slice_get cs m ≡ Some c) × KeepsDecl d c

-- The metavariables extend those of the state and are legal over its environment, and the goals are open ones, each listed once.
pub record MayFollow (s : State) (metas : List (Decl Term)) (goals : List ℕ) : Type 0 where
  pub extend : Extend s.metas metas
  pub legal : IsLegalMetas (rules_env s.items) (rules_metas metas)
  pub active : All (IsOpen metas) goals
  pub once : AreDistinct goals
