-- Worked states that go on with others.
use Rattle.std.specs.Prelude.{ℕ, List, [], ◌∷◌, codes, None}
use Rattle.ld_trees.specs.Term.{Term, Star}
use Rattle.ld_terms.specs.declared.globals.Item.{Item}
use Rattle.goal_state.specs.State.{State}
use Rattle.coupling.specs.Examples.{closed, N, between, by_c}

-- `le(a(), b())` by transitivity, with three goals
abbrev pub branch : State
branch = record { items = []; metas = between; goals = 1 ∷ 2 ∷ 3 ∷ [] }

-- two of its goals have values, and the third is dormant
abbrev pub target : State
target = record { items = []; metas = by_c; goals = [] }

-- the same with that goal active
abbrev pub target_with_goal : State
target_with_goal = record { items = []; metas = by_c; goals = 3 ∷ [] }

-- another theorem
abbrev pub other_theorem : State
other_theorem = record { items = []; metas = closed N None ∷ []; goals = 0 ∷ [] }

-- `prim q (x : *) : *;`, where the parameter has some name
abbrev pub primitive : List ℕ → Item Term
primitive x = record { name = codes "q"; params = record { name = x; ty = Star } ∷ []; ty = Star; body = None }

-- the same states over environments that differ in a name
abbrev pub target_over : List ℕ → State
target_over x = record { items = primitive x ∷ []; metas = by_c; goals = [] }

abbrev pub branch_over : List ℕ → State
branch_over x = record { items = primitive x ∷ []; metas = between; goals = 1 ∷ 2 ∷ 3 ∷ [] }
