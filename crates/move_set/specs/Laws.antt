-- The laws of moves that this crate proves. Each holds for all states, texts and units.
use Rattle.std.specs.Prelude.{◌≡◌, ◌≢◌, ◌<◌, ℕ, Bool, length, Some, None, slice_get}
use Rattle.ld_trees.specs.Term.{Term, Meta, none, ◌▹◌}
use Rattle.ld_rules.specs.Environment.{Env}
use Rattle.ld_terms.specs.declared.globals.Decl.{Decl}
use Rattle.term_syntax.specs.Lex.{Text}
use Rattle.meta_trees.specs.Dependencies.{Depends}
use Rattle.meta_context.specs.Declaring.{IsOpen}
use Rattle.meta_context.specs.Plain.{rules_ctx}
use Rattle.meta_laws.specs.Unfolding.{unfold_metas, unfold_all_metas}
use Rattle.goal_state.specs.State.{State, IsLegalState, rules_metas}
use Rattle.goal_state.specs.Following.{Extend}
use Rattle.coupling.specs.Coupling.{AreCoupled, IsIndependent}
use Rattle.unification.specs.Steps.{Gave}
use Rattle.unification.specs.Refusals.{Plain}
use Rattle.unification.specs.Laws.{FuelLaw, Stays}
use Rattle.move_set.specs.Applying.{Application, apply_step, apply}
use Rattle.move_set.specs.Moves.{moved}

-- ---- fuel

-- a move's answer with some units tells its answer with every other number of units
abbrev pub MovesHaveFuelLaw : Type 0
MovesHaveFuelLaw = (s : State) (index : ℕ) (text : Text) (auto : Bool) → FuelLaw (λ units. moved s index text units auto)

-- applying a term is a step over applying it: the bound on the arguments makes no difference
abbrev pub ApplyingUnfolds : Type 0
ApplyingUnfolds = (Δ : Env) (d : Decl Term) (a : Application) (n : ℕ) → apply Δ d a n ≡ apply_step Δ d (apply Δ d) a n

-- ---- legality

-- a move in a legal state makes a legal state
abbrev pub MovingIsLegal : Type 0
MovingIsLegal = (s s' : State) (index : ℕ) (text : Text) (units left : ℕ) (auto : Bool) → IsLegalState s → moved s index text units auto ≡ Gave s' left → IsLegalState s'

-- which has the items of the first, and each of its declarations and values
abbrev pub MovingKeeps : Type 0
MovingKeeps = (s s' : State) (index : ℕ) (text : Text) (units left : ℕ) (auto : Bool) → IsLegalState s → moved s index text units auto ≡ Gave s' left
    → (s'.items ≡ s.items) × Extend s.metas s'.metas

-- ---- what a move may change

-- goal g needs metavariable k: it is g or a dependency of g, and it is open
pub record IsNeeded (metas : Plain) (g k : ℕ) : Type 0 where
  pub dependency : Depends (rules_metas metas) (none ▹ Meta g none) k
  pub without_value : IsOpen metas k

-- a move assigns only metavariables that its goal needs, and what it declared itself: every other metavariable of the first state stays
-- as it was
abbrev pub MovingHasFootprint : Type 0
MovingHasFootprint = (s s' : State) (index g k : ℕ) (text : Text) (units left : ℕ) (auto : Bool) → IsLegalState s → slice_get s.goals index ≡ Some g → moved s index text units auto ≡ Gave s' left
    → k < length s.metas → (IsNeeded s.metas g k → ⊥) → Stays s.metas s'.metas k

-- a declaration has the context and the type that it had, also with assigned metavariables unfolded
pub record LooksTheSame (metas after : Plain) (h : ℕ) (d : Decl Term) : Type 0 where
  pub declared : slice_get after h ≡ Some d
  pub context : unfold_all_metas (rules_metas after) (rules_ctx d.ctx) ≡ unfold_all_metas (rules_metas metas) (rules_ctx d.ctx)
  pub ty : unfold_metas (rules_metas after) d.ty ≡ unfold_metas (rules_metas metas) d.ty

-- a move on a goal leaves every other open goal as it was that needs none of the metavariables that the first one needs
abbrev pub IndependentGoalsStay : Type 0
IndependentGoalsStay = (s s' : State) (index g h : ℕ) (d : Decl Term) (text : Text) (units left : ℕ) (auto : Bool) → IsLegalState s → slice_get s.goals index ≡ Some g → moved s index text units auto ≡ Gave s' left
    → slice_get s.metas h ≡ Some d → ((k : ℕ) → IsNeeded s.metas g k → IsNeeded s.metas h k → ⊥) → LooksTheSame s.metas s'.metas h d

-- a move on a goal leaves every other open goal as it was that is not coupled with the first one
abbrev pub UncoupledGoalsStay : Type 0
UncoupledGoalsStay = (s s' : State) (index g h : ℕ) (d : Decl Term) (text : Text) (units left : ℕ) (auto : Bool) → IsLegalState s → slice_get s.goals index ≡ Some g → moved s index text units auto ≡ Gave s' left
    → slice_get s.metas h ≡ Some d → d.value ≡ None → g ≢ h → (AreCoupled s.metas g h → ⊥) → LooksTheSame s.metas s'.metas h d

-- a move on an independent goal leaves every other open goal as it was
abbrev pub OtherGoalsStay : Type 0
OtherGoalsStay = (s s' : State) (index g h : ℕ) (d : Decl Term) (text : Text) (units left : ℕ) (auto : Bool) → IsLegalState s → slice_get s.goals index ≡ Some g → moved s index text units auto ≡ Gave s' left
    → IsIndependent s.metas g → slice_get s.metas h ≡ Some d → d.value ≡ None → g ≢ h → LooksTheSame s.metas s'.metas h d
