-- Goal states over plain trees: an environment, a metavariable context over it, and which of the open goals are active.
use Rattle.std.specs.Prelude.{◌≡◌, ℕ, List, [], ◌∷◌, map, All, Option, Some, None, option_map, Bool, false, ◌&&◌, not, is_none, length, slice_get}
use Rattle.ld_trees.specs.Term.{Term, Star}
use Rattle.ld_terms.specs.declared.globals.Item.{Item}
use Rattle.ld_terms.specs.declared.globals.Decl.{Decl}
use Rattle.meta_trees.specs.MetaContext.{Metas}
use Rattle.meta_trees.specs.Dependencies.{occurs, below}
use Rattle.meta_context.specs.Plain.{plain_locals, rules_env}
use Rattle.meta_context.specs.Stored.{metas_of}
use Rattle.meta_context.specs.Declaring.{IsOpen}
use Rattle.meta_laws.specs.Cut.{listed}
use Rattle.meta_laws.specs.Legality.{IsLegalMetas}
use Rattle.meta_laws.specs.Unfolding.{value_of_root}

-- a declaration, with the trees that its handles mean
abbrev pub plain_decl : {H : Type 0} → (H → Term) → Decl H → Decl Term
plain_decl means d = record { ctx = plain_locals means d.ctx; ty = means d.ty; value = option_map means d.value }

-- the plain declarations that stored ones mean
abbrev pub plain_metas : {H : Type 0} → (H → Term) → List (Decl H) → List (Decl Term)
plain_metas means ds = map (plain_decl means) ds

-- the metavariable context of the rules, in which names of entries play no part
abbrev pub rules_metas : List (Decl Term) → Metas
rules_metas ds = metas_of (λ t. t) ds

-- The items, the one added last first; the metavariables by their numbers; and the numbers of the active goals, in their order.
pub record State : Type 0 where
  pub items : List (Item Term)
  pub metas : List (Decl Term)
  pub goals : List ℕ

-- ---- open goals

abbrev pub lacks_value : {H : Type 0} → Option (Decl H) → Bool
lacks_value None = false
lacks_value (Some d) = is_none d.value

-- a metavariable is an open goal where it is declared and has no value
abbrev pub is_open : {H : Type 0} → List (Decl H) → ℕ → Bool
is_open ds m = lacks_value (slice_get ds m)

-- the open goals, the least number first
abbrev pub open_goals : State → List ℕ
open_goals s = below (is_open s.metas) (length s.metas)

-- an open goal is dormant where it isn't active
abbrev pub is_dormant : State → ℕ → Bool
is_dormant s m = is_open s.metas m && not (listed m s.goals)

-- the dormant goals, the least number first
abbrev pub dormant : State → List ℕ
dormant s = below (is_dormant s) (length s.metas)

-- no goal is open
abbrev pub IsSolved : State → Type 0
IsSolved s = open_goals s ≡ []

-- ---- the root

-- the type of metavariable 0, which no change of a state touches
abbrev pub root_type : State → Term
root_type s = type_of_first s.metas where
  type_of_first : List (Decl Term) → Term
  type_of_first [] = Star
  type_of_first (d ∷ ds) = d.ty

-- metavariable 0 with every assigned metavariable unfolded, and nothing else reduced
abbrev pub root_value : State → Term
root_value s = value_of_root (rules_metas s.metas)

-- no metavariable occurs in a term
abbrev pub HasNoMeta : Term → Type 0
HasNoMeta t = (k : ℕ) → occurs k t ≡ false

-- ---- legal states

-- metavariable 0 is declared, over the empty context
abbrev pub HasRoot : List (Decl Term) → Type 0
HasRoot [] = ⊥
HasRoot (d ∷ ds) = d.ctx ≡ []

-- each number stands once
abbrev pub AreDistinct : List ℕ → Type 0
AreDistinct [] = Unit {0}
AreDistinct (m ∷ ms) = (listed m ms ≡ false) × AreDistinct ms

-- The metavariable context is legal over the environment and has a root, and the active goals are open ones, each listed once.
pub record IsLegalState (s : State) : Type 0 where
  pub legal : IsLegalMetas (rules_env s.items) (rules_metas s.metas)
  pub root : HasRoot s.metas
  pub active : All (IsOpen s.metas) s.goals
  pub once : AreDistinct s.goals
