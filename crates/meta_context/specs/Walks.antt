-- Inner: how `depends` works; no public clause cites this.
-- A walk through terms and the metavariables in them: the handles that are left to be looked at, all handles that have entered, and of
-- which metavariables the context, the type and the value have entered.
use Rattle.std.specs.Prelude.{◌≡◌, ◌≢◌, ◌≤◌, ◌+◌, ◌⊎◌, ℕ, List, [], ◌∷◌, ◌++◌, map, All, Contains, sum_by, slice_get, slice_index_or, Bool, true, false, None, Some, option_to_list}
use Rattle.std.specs.List.{slice_set}
use Rattle.ld_trees.specs.Term.{Term}
use Rattle.ld_terms.specs.Views.{node_tree, PartsIn}
use Rattle.ld_terms.specs.declared.globals.Local.{Local}
use Rattle.ld_terms.specs.declared.globals.Decl.{Decl}
use Rattle.ld_terms.specs.declared.view.View.{View}
use Rattle.ld_terms.specs.declared.view.View.TheVariants as view

-- handles that are left, and all that have entered
pub record HaveEntered {H : Type 0} (hs left entered left' entered' : List H) : Type 0 where
  pub here : All (Contains entered') hs
  pub kept : (x : H) → Contains entered x → Contains entered' x
  pub fresh : (x : H) → Contains entered' x → Contains entered x ⊎ Contains left' x
  pub waiting : (x : H) → Contains left x → Contains left' x
  pub known : (x : H) → Contains left' x → Contains left x ⊎ Contains hs x
  pub less : (weight : H → ℕ) → sum_by weight left' ≤ sum_by weight left + sum_by weight hs

-- the types of entries
abbrev pub types_of : {H : Type 0} → List (Local H) → List H
types_of ls = map (λ l. l.ty) ls

-- the handles of a metavariable's context, type and value
abbrev pub decl_handles : {H : Type 0} → Decl H → List H
decl_handles d = types_of d.ctx ++ (d.ty ∷ option_to_list d.value)

-- the handles in a node
abbrev pub node_parts : {H : Type 0} → View H → List H
node_parts view.Star = []
node_parts view.Square = []
node_parts (view.Var i) = []
node_parts (view.App f a) = f ∷ a ∷ []
node_parts (view.Lam A M) = A ∷ M ∷ []
node_parts (view.Pi A B) = A ∷ B ∷ []
node_parts (view.Const a us) = us.now
node_parts (view.Meta k us) = us.now

-- Of a metavariable that has been met nothing more enters, nor of one that isn't declared. Of another one its handles enter, and it
-- has been met from then on.
pub data IsMet {H : Type 0} (ds : List (Decl H)) (k : ℕ) (met met' : List Bool) (more : List H) : Type 0 where
  unknown : slice_get ds k ≡ None → met' ≡ met → more ≡ [] → IsMet ds k met met' more
  again : slice_index_or met k true ≡ true → met' ≡ met → more ≡ [] → IsMet ds k met met' more
  first : (d : Decl H) → slice_get ds k ≡ Some d → slice_index_or met k true ≡ false → met' ≡ slice_set met k true → more ≡ decl_handles d → IsMet ds k met met' more

-- the same, with what enters
pub record Meets {H : Type 0} (ds : List (Decl H)) (k : ℕ) (left entered : List H) (met : List Bool) (left' entered' : List H) (met' : List Bool) : Type 0 where
  pub more : List H
  pub parts : HaveEntered more left entered left' entered'
  pub meets : IsMet ds k met met' more

-- what enters because of the metavariable at a node, which isn't m
abbrev pub MeetsOther : {H : Type 0} → List (Decl H) → ℕ → List Bool → List Bool → List H → View H → Type 0
MeetsOther ds m met met' more (view.Meta k us) = (k ≢ m) × IsMet ds k met met' more
MeetsOther ds m met met' more _ = (met' ≡ met) × (more ≡ [])

-- a handle of the store is looked at: the parts of its node enter, and what its metavariable makes enter
pub record IsLookedAt {H : Type 0} (holds : H → Type 0) (means : H → Term) (ds : List (Decl H)) (m : ℕ) (h : H) (left entered : List H) (met : List Bool) (left' entered' : List H) (met' : List Bool) : Type 0 where
  pub node : View H
  pub more : List H
  pub tree : node_tree means node ≡ means h
  pub held : PartsIn holds node
  pub parts : HaveEntered (node_parts node ++ more) left entered left' entered'
  pub meets : MeetsOther ds m met met' more node
