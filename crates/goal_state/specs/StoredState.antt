-- Goal states over a store of terms, and the plain states that they mean.
use Rattle.std.specs.Prelude.{ℕ, ◌≤◌, List, length}
use Rattle.ld_trees.specs.Term.{Term}
use Rattle.ld_terms.specs.declared.globals.Item.{Item}
use Rattle.ld_terms.specs.declared.globals.Decl.{Decl}
use Rattle.conversion.specs.Globals.{AreGlobalsOf}
use Rattle.meta_context.specs.Entered.{AreEntered, AreDeclared}
use Rattle.meta_context.specs.Plain.{plain_items}
use Rattle.goal_state.specs.State.{State, plain_metas, IsLegalState}

-- a store of terms; items, the one added last first, and metavariables by their numbers, over its handles; and the active goals
pub record StoredState (T H : Type 0) : Type 0 where
  pub terms : T
  pub items : List (Item H)
  pub metas : List (Decl H)
  pub goals : List ℕ

module _ {T H : Type 0} where
  -- the plain state, where each handle of a store means a tree
  abbrev pub plain_state : (T → H → Term) → StoredState T H → State
  plain_state means s = record { items = plain_items (means s.terms) s.items; metas = plain_metas (means s.terms) s.metas; goals = s.goals }

  -- The store holds the terms, the names and the lengths are those of an environment and of contexts, and the plain state is legal.
  pub record IsKeptState (holds : T → H → Type 0) (means : T → H → Term) (s : StoredState T H) : Type 0 where
    pub held : AreGlobalsOf (holds s.terms) s.items s.metas
    pub entered : AreEntered s.items
    pub declared : AreDeclared s.metas
    pub few : length s.metas ≤ 65536
    pub legal : IsLegalState (plain_state means s)
