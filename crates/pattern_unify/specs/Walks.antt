-- Words for the private calls of unification that walk terms, and for the plain data that they give.
use Rattle.std.specs.Prelude.{◌≡◌, ℕ, ◌+◌, ◌-◌, ◌<◌, List, [], ◌∷◌, ◌++◌, map, Bool, true, false, length, ◌||◌, nat_lt, Option, Some, None, unwrap_or, if◌then◌else◌}
use Rattle.ld_trees.specs.Term.{Named, Numbered, Term, Srt, Var, App, Lam, Pi, Con, Terms, none, ◌▹◌}
use Rattle.ld_trees.specs.Substitution.{rename}
use Rattle.ld_rules.specs.Environment.{Env}
use Rattle.ld_terms.specs.Views.{terms_of}
use Rattle.ld_terms.specs.declared.globals.Local.{Local}
use Rattle.goal_state.specs.State.{is_open}
use Rattle.unification.specs.Steps.{pure}
use Rattle.unification.specs.Refusals.{Plain, Step}
use Rattle.unification.specs.Metavariables.{extended}
use Rattle.unification.specs.Patterns.{Side, Rigid, Flexible, Pattern, place_of, applied, is_new_variable, are_distinct_variables}
use Rattle.unification.specs.Pruning.{Spot, Nowhere, Outside, Inside, or_spot, marks_of, name_at, thin}
use Rattle.pattern_unify.specs.declared.sides.Side.{Side as StoredSide}
use Rattle.pattern_unify.specs.declared.sides.Side.TheVariants as side
use Rattle.pattern_unify.specs.declared.spots.Spot.{Spot as StoredSpot}
use Rattle.pattern_unify.specs.declared.spots.Spot.TheVariants as spot

-- variables as arguments, the first one first
abbrev pub variables_of : List ℕ → Terms
variables_of vs = terms_of (map (λ i. Var i) vs)

-- ---- bad variables

abbrev pub or_next : Option ℕ → Option ℕ → Option ℕ
or_next None o = o
or_next (Some i) o = Some i

-- the first variable of a term under k binders that is neither bound by them nor good
abbrev mutual
  pub bad_variable : (ℕ → Bool) → ℕ → Term → Option ℕ
  bad_variable good k (Srt s) = None
  bad_variable good k (Var i) = if nat_lt i k || good (i - k) then None else Some (i - k)
  bad_variable good k (App f a) = or_next (bad_variable good k f) (bad_variable good k a)
  bad_variable good k (Lam A M) = or_next (bad_variable good k A) (bad_variable good (k + 1) M)
  bad_variable good k (Pi A B) = or_next (bad_variable good k A) (bad_variable good (k + 1) B)
  bad_variable good k (Con h us) = bad_variable_of good k us

  pub bad_variable_of : (ℕ → Bool) → ℕ → Terms → Option ℕ
  bad_variable_of good k none = None
  bad_variable_of good k (us ▹ u) = or_next (bad_variable_of good k us) (bad_variable good k u)

abbrev pub plain_spot : StoredSpot → Spot
plain_spot spot.Nowhere = Nowhere
plain_spot (spot.Outside i) = Outside i
plain_spot (spot.Inside i m marks) = Inside i m marks.items

-- a variable in no argument of an unassigned metavariable, and one in arguments of m
abbrev pub spot_outside : Option ℕ → Spot
spot_outside None = Nowhere
spot_outside (Some i) = Outside i

abbrev pub spot_if : ℕ → List Bool → Option ℕ → Spot
spot_if m marks None = Nowhere
spot_if m marks (Some i) = Inside i m marks

abbrev pub spot_within : ℕ → (ℕ → Bool) → ℕ → Terms → Spot
spot_within m good k us = spot_if m (marks_of good k us) (bad_variable_of good k us)

-- where the first bad variable of a term under k binders stands, in no argument of an unassigned metavariable so far
abbrev mutual
  pub free_spot : Plain → (ℕ → Bool) → ℕ → Term → Spot
  free_spot metas good k (Srt s) = Nowhere
  free_spot metas good k (Var i) = spot_outside (bad_variable good k (Var i))
  free_spot metas good k (App f a) = or_spot (free_spot metas good k f) (free_spot metas good k a)
  free_spot metas good k (Lam A M) = or_spot (free_spot metas good k A) (free_spot metas good (k + 1) M)
  free_spot metas good k (Pi A B) = or_spot (free_spot metas good k A) (free_spot metas good (k + 1) B)
  free_spot metas good k (Con (Named c) us) = free_spot_of metas good k us
  free_spot metas good k (Con (Numbered m) us) = if is_open metas m then spot_within m good k us else free_spot_of metas good k us

  pub free_spot_of : Plain → (ℕ → Bool) → ℕ → Terms → Spot
  free_spot_of metas good k none = Nowhere
  free_spot_of metas good k (us ▹ u) = or_spot (free_spot_of metas good k us) (free_spot metas good k u)

-- ---- renaming

-- a term under k binders in which each variable that they don't bind is renamed
abbrev mutual
  pub renamed_at : (ℕ → ℕ) → ℕ → Term → Term
  renamed_at r k (Srt s) = Srt s
  renamed_at r k (Var i) = Var (if nat_lt i k then i else r (i - k) + k)
  renamed_at r k (App f a) = App (renamed_at r k f) (renamed_at r k a)
  renamed_at r k (Lam A M) = Lam (renamed_at r k A) (renamed_at r (k + 1) M)
  renamed_at r k (Pi A B) = Pi (renamed_at r k A) (renamed_at r (k + 1) B)
  renamed_at r k (Con h us) = Con h (all_renamed_at r k us)

  pub all_renamed_at : (ℕ → ℕ) → ℕ → Terms → Terms
  all_renamed_at r k none = none
  all_renamed_at r k (us ▹ u) = all_renamed_at r k us ▹ renamed_at r k u

-- a term in which each variable that is an argument is named by its place
abbrev pub inverse : Terms → Term → Term
inverse vs t = rename (λ i. unwrap_or (place_of vs i) 0) t

-- ---- entries

-- the kept entries with one more, where that is kept: those before are given by their flags, the last one first, and by the context so far
abbrev pub kept_turn : Bool → Env → Plain → List Bool → List (Local Term) → List ℕ → Term → Step (List (Local Term))
kept_turn true Δ metas before kept name A = extended Δ metas kept (name_at (length kept) name) (rename (thin before) A)
kept_turn false Δ metas before kept name A = pure kept

-- the variable of an entry is behind others where the entry is kept
abbrev pub IsKeptVariable : Bool → ℕ → List ℕ → List ℕ → Type 0
IsKeptVariable true i vs ws = ws ≡ vs ++ i ∷ []
IsKeptVariable false i vs ws = ws ≡ vs

-- ---- sides

abbrev pub plain_side : StoredSide → Side
plain_side side.Rigid = Rigid
plain_side (side.Flexible m) = Flexible m
plain_side (side.Pattern m vs) = Pattern m (variables_of vs.variables.items)

-- further arguments, or none
abbrev pub applied_if : Bool → Side → Side
applied_if true s = applied s
applied_if false s = s

-- the variable that a term is, where it isn't among others
abbrev pub IsNewVariable : Terms → Term → Option ℕ → Type 0
IsNewVariable us u None = is_new_variable us u ≡ false
IsNewVariable us u (Some i) = (is_new_variable us u ≡ true) × (u ≡ Var i)

-- the arguments where they are distinct variables
abbrev pub AreDistinct : Terms → Option (List ℕ) → Type 0
AreDistinct us None = are_distinct_variables us ≡ false
AreDistinct us (Some vs) = (are_distinct_variables us ≡ true) × (variables_of vs ≡ us)

-- one for a flag that is set
abbrev pub one_if : Bool → ℕ
one_if true = 1
one_if false = 0

-- ---- units

-- so many units were spent of those before, or there were fewer and none is left
abbrev pub IsSpent : ℕ → ℕ → ℕ → Bool → Type 0
IsSpent k before after true = before ≡ k + after
IsSpent k before after false = (before < k) × (after ≡ 0)
