-- Marks on metavariables, a byte for each number: 0 for none, 1 for a metavariable that was met, and 2 for one whose context, type and
-- value were looked at.
use Rattle.std.specs.Prelude.{◌≡◌, ◌⊎◌, ◌<◌, ℕ, List, Contains, Bool, true, ◌&&◌, nat_lt, length, slice_index}
use Rattle.ld_trees.specs.Term.{Term}
use Rattle.ld_terms.specs.declared.globals.Decl.{Decl}
use Rattle.meta_trees.specs.MetaContext.{Metas}
use Rattle.meta_trees.specs.Dependencies.{Depends, occurs, parts_of}
use Rattle.goal_state.specs.State.{is_open}
use Rattle.coupling.specs.Looks.{remembered}
use Rattle.coupling.specs.declared.looks.Looks.{Looks}

abbrev pub IsMarked : List ℕ → ℕ → Type 0
IsMarked ms k = 0 < slice_index ms k

-- each metavariable that passes a test has a mark now; no mark was changed, and no other one was made
pub record HasMarked (p : ℕ → Bool) (ms ms' : List ℕ) : Type 0 where
  pub sized : length ms' ≡ length ms
  pub each : (k : ℕ) → (slice_index ms' k ≡ slice_index ms k) ⊎ ((slice_index ms k ≡ 0) × (slice_index ms' k ≡ 1) × (p k ≡ true))
  pub all : (k : ℕ) → k < length ms → p k ≡ true → IsMarked ms' k

-- the metavariables in the terms of the handles that a walk remembers have marks
abbrev pub AreKnown : {H : Type 0} → (H → Term) → Looks H → List ℕ → Type 0
AreKnown {H} means seen ms = (x : H) → Contains (remembered seen) x → (k : ℕ) → k < length ms → occurs k (means x) ≡ true → IsMarked ms k

-- the same, where those that pass a test were marked
pub record Marks {H : Type 0} (means : H → Term) (p : ℕ → Bool) (ms : List ℕ) (seen : Looks H) (ms' : List ℕ) : Type 0 where
  pub marked : HasMarked p ms ms'
  pub known : AreKnown means seen ms'

-- k is metavariable g or among its dependencies
abbrev pub IsReached : Metas → ℕ → ℕ → Type 0
IsReached Σ g k = (g ≡ k) ⊎ Depends Σ (parts_of Σ g) k

-- exactly those have marks
pub record Reaches (Σ : Metas) (g : ℕ) (ms : List ℕ) : Type 0 where
  pub sound : (k : ℕ) → IsMarked ms k → IsReached Σ g k
  pub whole : (k : ℕ) → k < length ms → IsReached Σ g k → IsMarked ms k

-- a metavariable is open and has a mark
abbrev pub is_open_and_marked : {H : Type 0} → List (Decl H) → List ℕ → ℕ → Bool
is_open_and_marked ds ms k = is_open ds k && nat_lt 0 (slice_index ms k)

-- a metavariable is open and has two marks
abbrev pub is_in_both : {H : Type 0} → List (Decl H) → List ℕ → List ℕ → ℕ → Bool
is_in_both ds ms ns k = is_open_and_marked ds ms k && nat_lt 0 (slice_index ns k)
