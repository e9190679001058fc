-- The environment that items and metavariables of a store make.
use Rattle.std.specs.Prelude.{ℕ, suc, List, [], ◌∷◌, map, All, Option, Some, None, option_map}
use Rattle.ld_trees.specs.Term.{Term, Named, Numbered}
use Rattle.ld_rules.specs.Environment.{Ctx, Env, Item}
use Rattle.ld_terms.specs.Views.{terms_of}
use Rattle.ld_terms.specs.declared.globals.Local.{Local}
use Rattle.ld_terms.specs.declared.globals.Item.{Item as StoredItem}
use Rattle.ld_terms.specs.declared.globals.Decl.{Decl}

-- the types of a context's entries, the first entry first
abbrev pub context_of : {H : Type 0} → (H → Term) → List (Local H) → Ctx
context_of means ls = terms_of (map (λ l. means l.ty) ls)

abbrev pub item_tree : {H : Type 0} → (H → Term) → StoredItem H → Item
item_tree means i = record { name = Named i.name; params = context_of means i.params; ty = means i.ty; body = option_map means i.body }

-- a metavariable as an item whose parameters are its context
abbrev pub decl_tree : {H : Type 0} → (H → Term) → ℕ → Decl H → Item
decl_tree means m d = record { name = Numbered m; params = context_of means d.ctx; ty = means d.ty; body = option_map means d.value }

-- metavariables added to an environment, the first one with that number
abbrev pub with_metas : {H : Type 0} → (H → Term) → ℕ → List (Decl H) → Env → Env
with_metas means m [] Δ = Δ
with_metas means m (d ∷ ds) Δ = with_metas means (suc m) ds (decl_tree means m d ∷ Δ)

-- items, the last one first, and then the metavariables by their numbers
abbrev pub env_of : {H : Type 0} → (H → Term) → List (StoredItem H) → List (Decl H) → Env
env_of means items metas = with_metas means 0 metas (map (item_tree means) items)

-- ---- each handle of them is one of the store

abbrev pub AreLocals : {H : Type 0} → (H → Type 0) → List (Local H) → Type 0
AreLocals holds ls = All (λ l. holds l.ty) ls

abbrev pub IsOptional : {H : Type 0} → (H → Type 0) → Option H → Type 0
IsOptional holds None = Unit {0}
IsOptional holds (Some h) = holds h

pub record IsItemOf {H : Type 0} (holds : H → Type 0) (i : StoredItem H) : Type 0 where
  pub params : AreLocals holds i.params
  pub ty : holds i.ty
  pub body : IsOptional holds i.body

pub record IsDeclOf {H : Type 0} (holds : H → Type 0) (d : Decl H) : Type 0 where
  pub ctx : AreLocals holds d.ctx
  pub ty : holds d.ty
  pub value : IsOptional holds d.value

pub record AreGlobalsOf {H : Type 0} (holds : H → Type 0) (items : List (StoredItem H)) (metas : List (Decl H)) : Type 0 where
  pub items_held : All (IsItemOf holds) items
  pub metas_held : All (IsDeclOf holds) metas
