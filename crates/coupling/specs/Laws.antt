-- The laws of coupling that this crate proves. Each holds for all metavariables, legal or not.
use Rattle.std.specs.Prelude.{◌≡◌, ◌≢◌, ◌↔◌, ℕ, List, true}
use Rattle.ld_trees.specs.Term.{Term}
use Rattle.ld_terms.specs.declared.globals.Decl.{Decl}
use Rattle.meta_context.specs.Declaring.{IsOpen}
use Rattle.meta_laws.specs.Cut.{listed}
use Rattle.goal_state.specs.State.{State, is_dormant}
use Rattle.coupling.specs.Coupling.{Needs, AreCoupled, needs, coupled}

-- the list of needed goals has exactly those that are needed
abbrev pub NeedIsDecided : Type 0
NeedIsDecided = (ds : List (Decl Term)) (g k : ℕ) → (listed k (needs ds g) ≡ true) ↔ Needs ds g k

-- the list of coupled goals of an open goal has exactly those that are coupled with it
abbrev pub CouplingIsDecided : Type 0
CouplingIsDecided = (ds : List (Decl Term)) (g h : ℕ) → IsOpen ds g → (listed h (coupled ds g) ≡ true) ↔ AreCoupled ds g h

-- an open goal is listed with each open goal that is listed with it
abbrev pub CouplingIsSymmetric : Type 0
CouplingIsSymmetric = (ds : List (Decl Term)) (g h : ℕ) → IsOpen ds g → listed h (coupled ds g) ≡ true → listed g (coupled ds h) ≡ true

-- a dormant goal that needs a common goal is listed too
abbrev pub DormantGoalsCount : Type 0
DormantGoalsCount = (s : State) (g h k : ℕ) → IsOpen s.metas g → is_dormant s h ≡ true → g ≢ h → Needs s.metas g k → Needs s.metas h k → listed h (coupled s.metas g) ≡ true
