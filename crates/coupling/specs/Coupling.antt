-- Goals that are coupled because they need a common goal, after the word of Pantograph (Aniva et al., TACAS 2025). The definition is
-- this project's. Which goals are active plays no part in it: a dormant goal counts as an active one does.
use Rattle.std.specs.Prelude.{◌≡◌, ◌≢◌, ◌⊎◌, ℕ, List, [], ◌∷◌, Bool, false, not, ◌&&◌, ◌||◌, nat_eq, length}
use Rattle.ld_trees.specs.Term.{Term}
use Rattle.ld_terms.specs.declared.globals.Decl.{Decl}
use Rattle.meta_trees.specs.Dependencies.{Depends, depends, parts_of, below}
use Rattle.meta_context.specs.Declaring.{IsOpen}
use Rattle.meta_laws.specs.Cut.{listed}
use Rattle.goal_state.specs.State.{rules_metas, is_open}

-- goal g needs k where k is open, and is g or among the dependencies of g
pub record Needs (ds : List (Decl Term)) (g k : ℕ) : Type 0 where
  pub goal : IsOpen ds k
  pub among : (g ≡ k) ⊎ Depends (rules_metas ds) (parts_of (rules_metas ds) g) k

-- two open goals, not one goal twice, need a common one
pub record AreCoupled (ds : List (Decl Term)) (g h : ℕ) : Type 0 where
  pub first : IsOpen ds g
  pub second : IsOpen ds h
  pub apart : g ≢ h
  pub shared : (k : ℕ) × Needs ds g k × Needs ds h k

-- ---- the same, computed

abbrev pub is_needed : List (Decl Term) → ℕ → ℕ → Bool
is_needed ds g k = is_open ds k && (nat_eq g k || depends (rules_metas ds) (parts_of (rules_metas ds) g) k)

-- what a goal needs, the least number first
abbrev pub needs : List (Decl Term) → ℕ → List ℕ
needs ds g = below (is_needed ds g) (length ds)

-- a number stands in both lists
abbrev pub meet : List ℕ → List ℕ → Bool
meet [] ns = false
meet (m ∷ ms) ns = listed m ns || meet ms ns

abbrev pub is_coupled : List (Decl Term) → ℕ → ℕ → Bool
is_coupled ds g h = not (nat_eq g h) && (is_open ds h && meet (needs ds g) (needs ds h))

-- the open goals that are coupled with a goal, the least number first
abbrev pub coupled : List (Decl Term) → ℕ → List ℕ
coupled ds g = below (is_coupled ds g) (length ds)

-- a goal is coupled with no other open goal
abbrev pub IsIndependent : List (Decl Term) → ℕ → Type 0
IsIndependent ds g = coupled ds g ≡ []
