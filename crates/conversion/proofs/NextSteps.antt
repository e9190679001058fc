-- The next step of a head, by the kind of the head.
use Rattle.std.proofs.Common.{◌≡◌, ℕ, ◌+◌, List, [], ◌∷◌, ◌++◌, map, length, nat_eq, All, IfSome, Option, Some, None, option_map, slice_get, refl, sym, ap, ap₂, ◌∙◌, subst, arith}
use Rattle.std.proofs.lemmas.List.{map-append}
use Rattle.std.proofs.lemmas.Grind.{common_steps}
use Rattle.ld_trees.specs.Term.{Term, App, Lam, Const, Meta, Terms, none, ◌▹◌, count}
use Rattle.ld_trees.specs.Substitution.{subst_all}
use Rattle.ld_rules.specs.Environment.{Env}
use Rattle.ld_terms.specs.Items.{item_named}
use Rattle.ld_terms.specs.Views.{terms_onto, terms_of}
use Rattle.ld_terms.specs.declared.globals.Item.{Item as StoredItem}
use Rattle.ld_terms.specs.declared.globals.Decl.{Decl}
use Rattle.conversion.specs.Globals.{item_tree, decl_tree, env_of, IsOptional}
use Rattle.conversion.specs.WeakHead.{unfold_if, unfolded, head_step}
use Rattle.conversion.specs.Laws.{IsNoAbstraction}
use Rattle.conversion.specs.Spines.{applied, reduct_tree, IsReduct, IsReductOf, IsNextStep}
use Rattle.conversion.specs.declared.steps.Reduct.{Reduct}
use Rattle.conversion.proofs.Spines.{applied_end, step_applied, no_step_applied}
use Rattle.conversion.proofs.Lookups.{constant_found, meta_found}

count_onto : (us : Terms) (xs : List Term) → count (terms_onto us xs) ≡ count us + length xs
count_onto us [] = omega arith
count_onto us (x ∷ xs) = let h = count_onto (us ▹ x) xs in omega (arith, h)

pub count_map : {X : Type 0} (f : X → Term) (xs : List X) → count (terms_of (map f xs)) ≡ length xs
count_map f xs = count_onto none (map f xs) ∙ length_map f xs
  where
    length_map : {X : Type 0} (f : X → Term) (xs : List X) → 0 + length (map f xs) ≡ length xs
    length_map f xs = grind (arith, common_steps)

module _ {H : Type 0} (means : H → Term) where
  next_of : (Δ : Env) (t : Term) (us : List H) (o : Option Term) (r : Option (Reduct H)) → IsNoAbstraction t → head_step Δ t ≡ o → IsReduct means o r → IsNextStep means Δ t us us r
  next_of Δ t us o None h e p = (no_step_applied Δ t (map means us) h (e ∙ p), refl)
  next_of Δ t us o (Some r) h e p = step_applied Δ t (reduct_tree means r) (map means us) (e ∙ p)

  -- an abstraction takes the first of the arguments that wait
  pub abstraction_step : (Δ : Env) (t A : Term) (us vs : List H) (u : H) (r : Reduct H) → Lam A (means r.body) ≡ t → us ≡ vs ++ u ∷ [] → r.args.items ≡ u ∷ [] → IsNextStep means Δ t us vs (Some r)
  abstraction_step Δ t A us vs u r e p q =
      ap₂ (λ x ys. head_step Δ (applied x (map means ys))) (sym e) p
      ∙ ap (λ ys. head_step Δ (applied (Lam A (means r.body)) ys)) (map-append means vs (u ∷ []))
      ∙ ap (head_step Δ) (applied_end (Lam A (means r.body)) (means u) (map means vs))
      ∙ step_applied Δ (App (Lam A (means r.body)) (means u)) (subst_all (none ▹ means u) (means r.body)) (map means vs) refl
      ∙ ap (λ ys. Some (applied (subst_all (terms_of (map means ys)) (means r.body)) (map means vs))) (sym q)

  pub abstraction_alone : (Δ : Env) (t A M : Term) (us vs : List H) → Lam A M ≡ t → us ≡ [] → vs ≡ us → IsNextStep means Δ t us vs None
  abstraction_alone Δ t A M us vs e p q = (ap₂ (λ x ys. head_step Δ (applied x (map means ys))) (sym e) p, q)

  module _ (is : List (StoredItem H)) (ds : List (Decl H)) where
    pub constant_step : (t : Term) (c : List ℕ) (us : List H) (i : StoredItem H) (ws : List H) (r : Option (Reduct H)) →
        Const c (terms_of (map means us)) ≡ t → item_named is c ≡ Some i → IsReduct means (unfold_if (nat_eq (length us) (length i.params)) (option_map means i.body) (terms_of (map means us))) r →
        IsNextStep means (env_of means is ds) t ws ws r
    constant_step t c us i ws r e f p =
        rw (sym e) (next_of (env_of means is ds) (Const c (terms_of (map means us))) ws _ r tt
        (ap (λ o. unfolded o (terms_of (map means us))) (constant_found means is ds c ∙ ap (option_map (item_tree means)) f)
        ∙ ap₂ (λ n m. unfold_if (nat_eq n m) (option_map means i.body) (terms_of (map means us))) (count_map means us) (count_map (λ l. means l.ty) i.params)) p)

    pub constant_new : (t : Term) (c : List ℕ) (us ws : List H) → Const c (terms_of (map means us)) ≡ t → item_named is c ≡ None → IsNextStep means (env_of means is ds) t ws ws None
    constant_new t c us ws e f =
        rw (sym e) (next_of (env_of means is ds) (Const c (terms_of (map means us))) ws None None tt
        (ap (λ o. unfolded o (terms_of (map means us))) (constant_found means is ds c ∙ ap (option_map (item_tree means)) f)) refl)

    pub meta_step : (t : Term) (m : ℕ) (us : List H) (d : Decl H) (ws : List H) (r : Option (Reduct H)) →
        Meta m (terms_of (map means us)) ≡ t → slice_get ds m ≡ Some d → IsReduct means (unfold_if (nat_eq (length us) (length d.ctx)) (option_map means d.value) (terms_of (map means us))) r →
        IsNextStep means (env_of means is ds) t ws ws r
    meta_step t m us d ws r e f p =
        rw (sym e) (next_of (env_of means is ds) (Meta m (terms_of (map means us))) ws _ r tt
        (ap (λ o. unfolded o (terms_of (map means us))) (meta_found means is ds m ∙ ap (option_map (decl_tree means m)) f)
        ∙ ap₂ (λ n k. unfold_if (nat_eq n k) (option_map means d.value) (terms_of (map means us))) (count_map means us) (count_map (λ l. means l.ty) d.ctx)) p)

    pub meta_new : (t : Term) (m : ℕ) (us ws : List H) → Meta m (terms_of (map means us)) ≡ t → slice_get ds m ≡ None → IsNextStep means (env_of means is ds) t ws ws None
    meta_new t m us ws e f =
        rw (sym e) (next_of (env_of means is ds) (Meta m (terms_of (map means us))) ws None None tt
        (ap (λ o. unfolded o (terms_of (map means us))) (meta_found means is ds m ∙ ap (option_map (decl_tree means m)) f)) refl)

  -- a sort, a variable or a product makes no step
  pub stands : (Δ : Env) (t : Term) (us : List H) → head_step Δ t ≡ None → IsNoAbstraction t → IsNextStep means Δ t us us None
  stands Δ t us e h = (no_step_applied Δ t (map means us) h e, refl)

-- the parts of what an optional body with arguments makes are of the store
pub reduct_held : {H : Type 0} (holds : H → Type 0) (body : Option H) (us : List H) (r : Option (Reduct H)) → IsOptional holds body → All holds us → IfSome r (λ x. (body ≡ Some x.body) × (x.args.items ≡ us)) → IfSome r (IsReductOf holds)
reduct_held holds body us None h a p = tt
reduct_held holds body us (Some x) h a p =
    let b : IsOptional holds (Some x.body) = subst (IsOptional holds) p.0 h in
    let u : All holds x.args.items = rw p.1 a in
    record { body = b; args = u }
