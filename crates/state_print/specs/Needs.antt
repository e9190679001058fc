-- What the open goals of a state need, found once for all of them, and the coupled goals by it.
use Rattle.std.specs.Prelude.{ℕ, zero, suc, List, [], ◌∷◌, ◌++◌, Bool, not, ◌&&◌, nat_eq, length, slice_index_or, if◌then◌else◌}
use Rattle.ld_trees.specs.Term.{Term}
use Rattle.ld_terms.specs.declared.globals.Decl.{Decl}
use Rattle.meta_trees.specs.Dependencies.{below}
use Rattle.goal_state.specs.State.{is_open}
use Rattle.coupling.specs.Coupling.{needs, meet}

-- what a metavariable needs where it is open
abbrev pub need_if_open : List (Decl Term) → ℕ → List ℕ
need_if_open ds m = if is_open ds m then needs ds m else []

-- for each of the numbers below one
abbrev pub needs_below : List (Decl Term) → ℕ → List (List ℕ)
needs_below ds zero = []
needs_below ds (suc n) = needs_below ds n ++ need_if_open ds n ∷ []

abbrev pub all_needs : List (Decl Term) → List (List ℕ)
all_needs ds = needs_below ds (length ds)

-- two goals, not one goal twice, need a common one
abbrev pub share_need : List (List ℕ) → ℕ → ℕ → Bool
share_need all g h = not (nat_eq g h) && meet (slice_index_or all g []) (slice_index_or all h [])

-- the goals that share a need with a goal, the least number first
abbrev pub coupled_by : List (List ℕ) → ℕ → List ℕ
coupled_by all g = below (share_need all g) (length all)
