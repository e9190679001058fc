-- Dormant goals of a state made active.
use Rattle.std.specs.Prelude.{ℕ, List, [], ◌∷◌, ◌++◌, Option, Some, None, is_none, slice_get, if◌then◌else◌}
use Rattle.ld_terms.specs.declared.globals.Decl.{Decl}
use Rattle.meta_laws.specs.Cut.{listed}
use Rattle.goal_state.specs.State.{State}
use Rattle.continue_resume.specs.Continuing.{with_goals}

-- A listed number isn't declared, or has a value; or a state.
pub data Resumed : Type 0 where
  GoalUndeclared : ℕ → Resumed
  GoalAssigned : ℕ → Resumed
  Resumes : State → Resumed

-- the active goals, and after them each listed number that isn't active, once
abbrev pub with_listed : List ℕ → List ℕ → List ℕ
with_listed goals [] = goals
with_listed goals (m ∷ ms) = with_listed (if listed m goals then goals else goals ++ m ∷ []) ms

-- goes on where a number is an open goal
abbrev pub if_open : {H : Type 0} → Option (Decl H) → ℕ → Resumed → Resumed
if_open None m r = GoalUndeclared m
if_open (Some d) m r = if is_none d.value then r else GoalAssigned m

-- the first listed number that isn't an open goal is refused, else they lead to the state
abbrev pub if_all_open : {H : Type 0} → List (Decl H) → List ℕ → Resumed → Resumed
if_all_open ds [] r = r
if_all_open ds (m ∷ ms) r = if_open (slice_get ds m) m (if_all_open ds ms r)

-- a state with listed goals made active
abbrev pub resumed : State → List ℕ → Resumed
resumed s ms = if_all_open s.metas ms (Resumes (with_goals s (with_listed s.goals ms)))
