-- The metavariable context that declarations over a store's handles mean.
use Rattle.std.specs.Prelude.{List, map, option_map}
use Rattle.ld_trees.specs.Term.{Term}
use Rattle.ld_rules.specs.Environment.{Env}
use Rattle.ld_terms.specs.declared.globals.Item.{Item as StoredItem}
use Rattle.ld_terms.specs.declared.globals.Decl.{Decl as StoredDecl}
use Rattle.conversion.specs.Globals.{context_of, item_tree}
use Rattle.meta_trees.specs.MetaContext.{Decl, Metas}

abbrev pub decl_of : {H : Type 0} → (H → Term) → StoredDecl H → Decl
decl_of means d = record { ctx = context_of means d.ctx; ty = means d.ty; value = option_map means d.value }

-- the declaration of metavariable m stands at place m
abbrev pub metas_of : {H : Type 0} → (H → Term) → List (StoredDecl H) → Metas
metas_of means ds = map (λ d. decl_of means d) ds

-- the environment of items, without metavariables
abbrev pub items_of : {H : Type 0} → (H → Term) → List (StoredItem H) → Env
items_of means is = map (λ i. item_tree means i) is
