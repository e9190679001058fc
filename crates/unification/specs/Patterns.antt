-- Patterns: an unassigned metavariable whose own arguments are distinct variables (Miller 1991). The last argument has place 0.
use Rattle.std.specs.Prelude.{ℕ, zero, suc, ◌-◌, Bool, true, false, not, ◌&&◌, ◌||◌, nat_eq, nat_lt, Option, Some, None, option_map, is_some, if◌then◌else◌}
use Rattle.ld_trees.specs.Term.{Numbered, Term, Srt, Var, App, Lam, Pi, Con, Meta, Terms, none, ◌▹◌}
use Rattle.goal_state.specs.State.{is_open}
use Rattle.unification.specs.Refusals.{Plain}

abbrev pub is_variable : ℕ → Term → Bool
is_variable i (Var j) = nat_eq i j
is_variable i _ = false

-- the place of variable i among arguments
abbrev pub place_of : Terms → ℕ → Option ℕ
place_of none i = None
place_of (us ▹ u) i = if is_variable i u then Some 0 else option_map suc (place_of us i)

abbrev pub is_new_variable : Terms → Term → Bool
is_new_variable us (Var i) = not (is_some (place_of us i))
is_new_variable us _ = false

abbrev pub are_distinct_variables : Terms → Bool
are_distinct_variables none = true
are_distinct_variables (us ▹ u) = is_new_variable us u && are_distinct_variables us

-- so many variables as arguments, the last of which has that number
abbrev pub variables_from : ℕ → ℕ → Terms
variables_from i zero = none
variables_from i (suc n) = variables_from (suc i) n ▹ Var i

-- a metavariable applied to all variables of a context of so many entries
abbrev pub over_all : ℕ → ℕ → Term
over_all m n = Meta m (variables_from 0 n)

-- each variable of a term under k binders is bound by them or has a property
abbrev mutual
  pub holds_only : (ℕ → Bool) → ℕ → Term → Bool
  holds_only good k (Srt s) = true
  holds_only good k (Var i) = nat_lt i k || good (i - k)
  holds_only good k (App f a) = holds_only good k f && holds_only good k a
  holds_only good k (Lam A M) = holds_only good k A && holds_only good (suc k) M
  holds_only good k (Pi A B) = holds_only good k A && holds_only good (suc k) B
  holds_only good k (Con h us) = all_hold_only good k us

  pub all_hold_only : (ℕ → Bool) → ℕ → Terms → Bool
  all_hold_only good k none = true
  all_hold_only good k (us ▹ u) = all_hold_only good k us && holds_only good k u

-- what stands at the head of a weak head form: no unassigned metavariable; one, with further arguments or arguments that aren't distinct
-- variables; or a pattern
pub data Side : Type 0 where
  Rigid : Side
  Flexible : (m : ℕ) → Side
  Pattern : (m : ℕ) → Terms → Side

abbrev pub applied : Side → Side
applied (Pattern m us) = Flexible m
applied s = s

abbrev pub open_side : ℕ → Terms → Side
open_side m us = if are_distinct_variables us then Pattern m us else Flexible m

abbrev pub side : Plain → Term → Side
side metas (App f a) = applied (side metas f)
side metas (Con (Numbered m) us) = if is_open metas m then open_side m us else Rigid
side metas _ = Rigid

-- whether that is a certain metavariable
abbrev pub is_headed_by : ℕ → Side → Bool
is_headed_by m Rigid = false
is_headed_by m (Flexible n) = nat_eq m n
is_headed_by m (Pattern n vs) = nat_eq m n

-- the same unassigned metavariable at both heads
abbrev pub have_same_goal : Side → Side → Bool
have_same_goal Rigid s = false
have_same_goal (Flexible m) s = is_headed_by m s
have_same_goal (Pattern m us) s = is_headed_by m s
