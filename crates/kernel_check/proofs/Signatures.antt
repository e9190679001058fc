-- The parameters and the type of a constant or a metavariable.
use Rattle.std.proofs.Common.{◌≡◌, ℕ, List, Option, Some, None, option_map, refl, sym, ap, ◌∙◌}
use Rattle.std.specs.Prelude.{slice_get}
use Rattle.std.proofs.lemmas.Option.{same_Some}
use Rattle.ld_trees.specs.Term.{Head, Term, Named, Numbered, Con, Terms, count}
use Rattle.ld_rules.specs.Environment.{Ctx, Env, Item, item_of}
use Rattle.ld_terms.specs.Items.{item_named}
use Rattle.ld_terms.specs.declared.globals.Decl.{Decl}
use Rattle.ld_terms.specs.declared.globals.Item.{Item as StoredItem}
use Rattle.conversion.specs.Globals.{env_of, item_tree, decl_tree}
use Rattle.conversion.specs.Runs.{Refused, NotType}
use Rattle.conversion.proofs.Lookups.{constant_found, meta_found}
use Rattle.kernel_check.specs.Inference.{infer, infer_case, infer_item}
use Rattle.kernel_check.specs.Steps.{signature, instance_type}

module _ {H : Type 0} (means : H → Term) (is : List (StoredItem H)) (ds : List (Decl H)) where
  pub constant_signature : (c : List ℕ) (us : Terms) (t : Term) (o : Option (StoredItem H)) → o ≡ item_named is c → Con (Named c) us ≡ t →
      option_map (λ d. (d.params, d.ty)) (option_map (item_tree means) o) ≡ signature (env_of means is ds) t
  constant_signature c us t o e q =
      ap (λ x. option_map (λ d. (d.params, d.ty)) (option_map (item_tree means) x)) e
      ∙ ap (option_map (λ d. (d.params, d.ty))) (sym (constant_found means is ds c))
      ∙ ap (signature (env_of means is ds)) q

  pub meta_signature : (m : ℕ) (us : Terms) (t : Term) (o : Option (Decl H)) → o ≡ slice_get ds m → Con (Numbered m) us ≡ t →
      option_map (λ d. (d.params, d.ty)) (option_map (decl_tree means m) o) ≡ signature (env_of means is ds) t
  meta_signature m us t o e q =
      ap (λ x. option_map (λ d. (d.params, d.ty)) (option_map (decl_tree means m) x)) e
      ∙ ap (option_map (λ d. (d.params, d.ty))) (sym (meta_found means is ds m))
      ∙ ap (signature (env_of means is ds)) q

-- inference where the constant is there, and where it isn't
module _ (Δ : Env) (Γ : Ctx) (c : Head) (us : Terms) (n : ℕ) where
  pub item_instance : (p : Ctx × Term) → Some p ≡ signature Δ (Con c us) → infer_case Δ (infer Δ) Γ (Con c us) n ≡ instance_type Δ Γ c us p.0 p.1 n
  item_instance p = go (item_of c Δ)
    where
      go : (o : Option Item) → Some p ≡ option_map (λ d. (d.params, d.ty)) o → infer_item Δ (infer Δ) Γ c us o n ≡ instance_type Δ Γ c us p.0 p.1 n
      go None q = absurd cc
      go (Some d) q = ap (λ x. instance_type Δ Γ c us x.0 x.1 n) (sym (same_Some _ _ q))

  pub item_missing : None ≡ signature Δ (Con c us) → infer_case Δ (infer Δ) Γ (Con c us) n ≡ Refused (NotType (count Γ) (Con c us)) n
  item_missing = go (item_of c Δ)
    where
      go : (o : Option Item) → ◌≡◌ {A = Option (Ctx × Term)} None (option_map (λ d. (d.params, d.ty)) o) → infer_item Δ (infer Δ) Γ c us o n ≡ Refused (NotType (count Γ) (Con c us)) n
      go None q = refl
      go (Some d) q = absurd cc

-- what is read in a store
pub signature_read : {H : Type 0} (means : H → Term) (h : H) (Δ E : Env) (c : Head) (us : Terms) (o : Option (Ctx × Term)) → o ≡ signature E (means h) → E ≡ Δ → means h ≡ Con c us → o ≡ signature Δ (Con c us)
signature_read means h Δ E c us o q e t = q ∙ ap (λ x. signature x (means h)) e ∙ ap (signature Δ) t
