-- A stored environment and the plain one that it means are the same environment of the rules.
use Rattle.std.proofs.Common.{◌≡◌, List, [], ◌∷◌, map, Option, Some, None, option_map, refl, sym, ap, ap₂}
use Rattle.ld_trees.specs.Term.{Term, Named}
use Rattle.ld_rules.specs.Environment.{Ctx, Env, Item}
use Rattle.ld_terms.specs.Views.{terms_of}
use Rattle.ld_terms.specs.declared.globals.Local.{Local}
use Rattle.ld_terms.specs.declared.globals.Item.{Item as StoredItem}
use Rattle.conversion.specs.Globals.{context_of, item_tree, env_of}
use Rattle.meta_context.specs.Plain.{plain_locals, plain_item, plain_items, rules_ctx, rules_env}

module _ {H : Type 0} (means : H → Term) where
  types_again : (ls : List (Local H)) → map (λ (l : Local Term). l.ty) (plain_locals means ls) ≡ map (λ (l : Local H). means l.ty) ls
  types_again [] = refl
  types_again (l ∷ ls) = ap (λ ts. means l.ty ∷ ts) (types_again ls)

  pub context_again : (ls : List (Local H)) → context_of means ls ≡ rules_ctx (plain_locals means ls)
  context_again ls = ap terms_of (sym (types_again ls))

  body_again : (o : Option H) → option_map means o ≡ option_map (λ (t : Term). t) (option_map means o)
  body_again None = refl
  body_again (Some h) = refl

  item_again : (i : StoredItem H) → item_tree means i ≡ item_tree (λ t. t) (plain_item means i)
  item_again i = ap₂ (λ (ps : Ctx) (b : Option Term). let d : Item = record { name = Named i.name; params = ps; ty = means i.ty; body = b } in d) (context_again i.params) (body_again i.body)

  pub env_again : (is : List (StoredItem H)) → env_of means is [] ≡ rules_env (plain_items means is)
  env_again [] = refl
  env_again (i ∷ is) = ap₂ (λ (d : Item) (ds : Env). d ∷ ds) (item_again i) (env_again is)
