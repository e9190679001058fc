-- What an engine finds over the handles of a store is an environment with every metavariable.
use Rattle.std.proofs.Common.{◌≡◌, ℕ, zero, suc, List, [], ◌∷◌, None, option_map, refl, ap}
use Rattle.std.specs.Prelude.{slice_get}
use Rattle.ld_trees.specs.Term.{Term, Numbered}
use Rattle.ld_rules.specs.Environment.{Env, item_of}
use Rattle.ld_terms.specs.declared.globals.Local.{Local}
use Rattle.ld_terms.specs.declared.globals.Item.{Item as StoredItem}
use Rattle.ld_terms.specs.declared.globals.Decl.{Decl as StoredDecl}
use Rattle.conversion.specs.Globals.{context_of, with_metas, decl_tree, env_of}
use Rattle.meta_trees.specs.MetaContext.{declare, assign, decl}
use Rattle.meta_trees.specs.Whole.{with_all, whole}
use Rattle.meta_context.specs.Stored.{decl_of, metas_of, items_of}
use Rattle.meta_context.specs.Declaring.{declared, assigned}

with_metas_is : {H : Type 0} (means : H → Term) (m : ℕ) (ds : List (StoredDecl H)) (Δ : Env) → with_metas means m ds Δ ≡ with_all m (metas_of means ds) Δ
with_metas_is means m [] Δ = refl
with_metas_is means m (d ∷ ds) Δ = with_metas_is means (suc m) ds (decl_tree means m d ∷ Δ)

pub env_is_whole : {H : Type 0} (means : H → Term) (is : List (StoredItem H)) (ds : List (StoredDecl H)) → env_of means is ds ≡ whole (metas_of means ds) (items_of means is)
env_is_whole means is ds = with_metas_is means 0 ds (items_of means is)

-- an item of a store is a constant
pub items_have_no_metas : {H : Type 0} (means : H → Term) (is : List (StoredItem H)) (m : ℕ) → item_of (Numbered m) (items_of means is) ≡ None
items_have_no_metas means [] m = refl
items_have_no_metas means (i ∷ is) m = items_have_no_metas means is m

-- ---- what is declared and assigned over handles, over the trees that they mean

module _ {H : Type 0} (means : H → Term) where
  pub declared_means : (Γ : List (Local H)) (T : H) (ds : List (StoredDecl H)) → metas_of means (declared Γ T ds) ≡ declare (context_of means Γ) (means T) (metas_of means ds)
  declared_means Γ T [] = refl
  declared_means Γ T (d ∷ ds) = ap (λ xs. decl_of means d ∷ xs) (declared_means Γ T ds)

  pub assigned_means : (m : ℕ) (v : H) (ds : List (StoredDecl H)) → metas_of means (assigned m v ds) ≡ assign m (means v) (metas_of means ds)
  assigned_means m v [] = refl
  assigned_means zero v (d ∷ ds) = refl
  assigned_means (suc m) v (d ∷ ds) = ap (λ xs. decl_of means d ∷ xs) (assigned_means m v ds)

  pub decl_means : (m : ℕ) (ds : List (StoredDecl H)) → decl m (metas_of means ds) ≡ option_map (decl_of means) (slice_get ds m)
  decl_means m [] = refl
  decl_means zero (d ∷ ds) = refl
  decl_means (suc m) (d ∷ ds) = decl_means m ds
