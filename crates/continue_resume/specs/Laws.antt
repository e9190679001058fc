-- The laws of continuing and resuming that this crate proves. Each holds for all states.
use Rattle.std.specs.Prelude.{◌≡◌, ◌↔◌, ℕ, List, true}
use Rattle.ld_trees.specs.Term.{Term}
use Rattle.ld_terms.specs.declared.globals.Decl.{Decl}
use Rattle.goal_state.specs.State.{State, IsLegalState, root_type}
use Rattle.continue_resume.specs.Continuing.{same_root, is_shared, IsShared, Continues, continued}
use Rattle.continue_resume.specs.Resuming.{Resumes, resumed}

-- the test of roots decides whether two states have the same items and the same theorem
abbrev pub RootsAreDecided : Type 0
RootsAreDecided = (s t : State) → (same_root s t ≡ true) ↔ ((s.items ≡ t.items) × (root_type s ≡ root_type t))

-- the test of shared goals decides what they are
abbrev pub SharedGoalsAreDecided : Type 0
SharedGoalsAreDecided = (ds cs : List (Decl Term)) (m : ℕ) → (is_shared ds cs m ≡ true) ↔ IsShared ds cs m

-- a state that goes on with another one is legal, with the items and the metavariables that it had
abbrev pub ContinuingIsLegal : Type 0
ContinuingIsLegal = (target branch s : State) → IsLegalState target → IsLegalState branch → continued target branch ≡ Continues s
    → IsLegalState s × (s.items ≡ target.items) × (s.metas ≡ target.metas)

-- a state with dormant goals made active is legal, with the items and the metavariables that it had
abbrev pub ResumingIsLegal : Type 0
ResumingIsLegal = (s r : State) (ms : List ℕ) → IsLegalState s → resumed s ms ≡ Resumes r → IsLegalState r × (r.items ≡ s.items) × (r.metas ≡ s.metas)
