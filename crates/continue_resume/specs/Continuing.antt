-- Going on with a state by the goals of another one of the same theorem, after the command of Pantograph (Aniva et al., TACAS 2025). The
-- rules are this project's.
use Rattle.std.specs.Prelude.{◌≡◌, ℕ, List, [], ◌∷◌, filter, Option, Some, None, Bool, false, ◌&&◌, is_none, length, slice_get, if◌then◌else◌}
use Rattle.ld_trees.specs.Term.{Term, same}
use Rattle.ld_terms.specs.declared.globals.Decl.{Decl}
use Rattle.goal_state.specs.State.{State, root_type}
use Rattle.continue_resume.specs.Equality.{same_locals, same_items}

-- the same theorem in the same environment
abbrev pub same_root : State → State → Bool
same_root s t = same_items s.items t.items && same (root_type s) (root_type t)

-- a metavariable that one state declares and hasn't assigned, and that another one declares with the same context, names and type
abbrev pub is_open_as : Option (Decl Term) → Option (Decl Term) → Bool
is_open_as (Some d) (Some c) = is_none d.value && (same_locals d.ctx c.ctx && same d.ty c.ty)
is_open_as _ _ = false

abbrev pub is_shared : List (Decl Term) → List (Decl Term) → ℕ → Bool
is_shared ds cs m = is_open_as (slice_get ds m) (slice_get cs m)

-- the same in words
pub record IsShared (ds cs : List (Decl Term)) (m : ℕ) : Type 0 where
  pub one : Decl Term
  pub other : Decl Term
  pub declared : slice_get ds m ≡ Some one
  pub unassigned : one.value ≡ None
  pub found : slice_get cs m ≡ Some other
  pub ctx : one.ctx ≡ other.ctx
  pub ty : one.ty ≡ other.ty

-- other goals are active
abbrev pub with_goals : State → List ℕ → State
with_goals s goals = record { items = s.items; metas = s.metas; goals = goals }

-- The target has so many active goals; or the states have other environments or other theorems; or a state.
pub data Continued : Type 0 where
  TargetHasGoals : ℕ → Continued
  RootDiffers : Continued
  Continues : State → Continued

-- the branch's active goals that the target shares are active, in the branch's order
abbrev pub continued_without : List ℕ → State → State → Continued
continued_without (m ∷ ms) s t = TargetHasGoals (length (m ∷ ms))
continued_without [] s t = if same_root s t then Continues (with_goals s (filter (is_shared s.metas t.metas) t.goals)) else RootDiffers

-- a target goes on with a branch
abbrev pub continued : State → State → Continued
continued target branch = continued_without target.goals target branch
