-- What the engines find of constants and metavariables: known terms stay known where metavariables are declared and assigned, and where
-- the metavariables are legal each item is scoped.
use Rattle.std.proofs.Common.{◌≡◌, ℕ, List, [], ◌∷◌, inl, inr, Bool, true, false, nat_eq, Option, Some, None, option_map, refl, sym, ap, ◌∙◌, subst}
use Rattle.std.specs.Prelude.{slice_get}
use Rattle.std.proofs.lemmas.Option.{same_Some}
use Rattle.std.proofs.lemmas.Bool.{eqb-true, eq-eqb}
use Rattle.ld_trees.specs.Term.{Head, Named, Numbered, Term, Terms}
use Rattle.ld_rules.specs.Environment.{Env, Item as RulesItem, item_of, found_at}
use Rattle.ld_rules.specs.ScopedItems.{IsScopedItem, HasScopedItems}
use Rattle.ld_rules.specs.Extension.{Refines, Extends}
use Rattle.ld_rules.proofs.ScopedItems.{items_scoped}
use Rattle.ld_rules.proofs.SubstitutionLemma.{refines_itself}
use Rattle.ld_terms.specs.Items.{item_named}
use Rattle.ld_terms.specs.declared.globals.Item.{Item}
use Rattle.ld_terms.specs.declared.globals.Decl.{Decl}
use Rattle.conversion.specs.Globals.{item_tree, decl_tree}
use Rattle.conversion.proofs.Lookups.{constant_found, meta_found}
use Rattle.meta_trees.specs.MetaContext.{item}
use Rattle.meta_trees.specs.Dependencies.{Depends, parts}
use Rattle.meta_context.specs.Plain.{rules_ctx, rules_env}
use Rattle.meta_context.specs.Stored.{decl_of}
use Rattle.meta_context.proofs.Stored.{decl_means}
use Rattle.meta_laws.specs.Cut.{cut}
use Rattle.meta_laws.specs.Legality.{IsLegalMetas}
use Rattle.meta_laws.proofs.Order.{acyclic}
use Rattle.meta_laws.proofs.Items.{IsFrom, cut_from}
use Rattle.goal_state.specs.State.{rules_metas}
use Rattle.goal_state.specs.Following.{KeepsDecl, Extend}
use Rattle.unification.specs.Refusals.{Plain}
use Rattle.unification.specs.Metavariables.{reach}
use Rattle.unification.proofs.Reach.{known_extends, all_known_extends}
use Rattle.unification.proofs.Declarations.{declares}

abbrev pub itself : Term → Term
itself t = t

pub scoped_item_over : (E F : Env) → Extends E F → (d : RulesItem) → IsScopedItem E d → IsScopedItem F d
scoped_item_over E F ext d s = record {
  params = s.params;
  params_known = all_known_extends E F ext d.params s.params_known;
  ty = (s.ty.0, known_extends E F ext d.ty s.ty.1);
  body = λ M e. let b = s.body M e in (b.0, known_extends E F ext M b.1);
}

-- ---- what is found under a name and under a number

module _ (items : List (Item Term)) where
  abbrev Δ : Env
  Δ = rules_env items

  pub constant_in : (metas : Plain) (a : List ℕ) → item_of (Named a) (reach Δ metas) ≡ option_map (item_tree itself) (item_named items a)
  constant_in metas a = constant_found itself items metas a

  pub constant_below : (a : List ℕ) → item_of (Named a) Δ ≡ option_map (item_tree itself) (item_named items a)
  constant_below a = constant_found itself items [] a

  pub meta_in : (metas : Plain) (m : ℕ) → item_of (Numbered m) (reach Δ metas) ≡ option_map (decl_tree itself m) (slice_get metas m)
  meta_in metas m = meta_found itself items metas m

  pub no_meta_below : (m : ℕ) → item_of (Numbered m) Δ ≡ None
  no_meta_below m = meta_found itself items [] m

  -- the environment alone
  pub below_reach : (metas : Plain) → Extends Δ (reach Δ metas)
  below_reach metas (Named a) d e = (d, constant_in metas a ∙ sym (constant_below a) ∙ e, refines_itself d)
  below_reach metas (Numbered m) d e = absurd (let f = sym (no_meta_below m) ∙ e in cc)

  refines_decl : (m : ℕ) (d c : Decl Term) → KeepsDecl d c → Refines (decl_tree itself m d) (decl_tree itself m c)
  refines_decl m d c k = record { params = ap rules_ctx (sym k.ctx); ty = sym k.ty; body = λ M. go M d.value (λ v. k.value v) }
    where
      go : (M : Term) (o : Option Term) → ((v : Term) → o ≡ Some v → c.value ≡ Some v) → option_map itself o ≡ Some M → option_map itself c.value ≡ Some M
      go M None f e = absurd cc
      go M (Some v) f e = ap (option_map itself) (f v refl) ∙ e

  -- metavariables that extend others
  pub reach_extends : (metas after : Plain) → Extend metas after → Extends (reach Δ metas) (reach Δ after)
  reach_extends metas after extend (Named a) d e = (d, constant_in after a ∙ sym (constant_in metas a) ∙ e, refines_itself d)
  reach_extends metas after extend (Numbered m) d e = go (slice_get metas m) refl (sym (meta_in metas m) ∙ e)
    where
      go : (o : Option (Decl Term)) → slice_get metas m ≡ o → option_map (decl_tree itself m) o ≡ Some d → (c : RulesItem) × (item_of (Numbered m) (reach Δ after) ≡ Some c) × Refines d c
      go None q p = absurd cc
      go (Some b) q p =
          let c = extend m b q in
          (decl_tree itself m c.0, meta_in after m ∙ ap (option_map (decl_tree itself m)) c.1, subst (λ i. Refines i (decl_tree itself m c.0)) (same_Some _ _ p) (refines_decl m b c.0 c.2))

  -- ---- scoped items

  module _ (metas : Plain) (legal : IsLegalMetas Δ (rules_metas metas)) where
    -- what is of the environment or of a metavariable
    from_reach : (P : ℕ → Type 0) (h : Head) (c : RulesItem) → IsFrom (rules_metas metas) Δ P h c → (b : RulesItem) × (item_of h (reach Δ metas) ≡ Some b) × Refines c b
    from_reach P h c (inl q) = below_reach metas h c q
    from_reach P h c (inr q) = go (slice_get metas q.0) refl (sym (decl_means itself q.0 metas) ∙ q.3)
      where
        go : (o : Option (Decl Term)) → slice_get metas q.0 ≡ o → option_map (decl_of itself) o ≡ Some q.1 → (b : RulesItem) × (item_of h (reach Δ metas) ≡ Some b) × Refines c b
        go None x p = absurd cc
        go (Some f) x p = (
          decl_tree itself q.0 f,
          ap (λ h. item_of h (reach Δ metas)) q.2 ∙ meta_in metas q.0 ∙ ap (option_map (decl_tree itself q.0)) x,
          subst (λ y. Refines c (item q.0 y)) (sym (same_Some _ _ p)) q.5,
        )

    -- each cut
    pub cut_below_reach : (X : Terms) → Extends (cut (rules_metas metas) Δ X) (reach Δ metas)
    cut_below_reach X h c e = from_reach (Depends (rules_metas metas) X) h c (cut_from (rules_metas metas) Δ X (acyclic (rules_metas metas) legal.acyclic) h c e)

    -- a declaration with the items that it stands on
    module _ (m : ℕ) (d : Decl Term) (there : slice_get metas m ≡ Some d) where
      abbrev own : RulesItem
      own = item m (decl_of itself d)

      abbrev before : Env
      before = cut (rules_metas metas) Δ (parts (decl_of itself d))

      own_extends : Extends (own ∷ before) (reach Δ metas)
      own_extends (Named a) c e = cut_below_reach (parts (decl_of itself d)) (Named a) c e
      own_extends (Numbered j) c e = go (nat_eq j m) refl e
        where
          go : (b : Bool) → nat_eq j m ≡ b → found_at b own (item_of (Numbered j) before) ≡ Some c → (b : RulesItem) × (item_of (Numbered j) (reach Δ metas) ≡ Some b) × Refines c b
          go true q p = (
            decl_tree itself m d,
            ap (λ i. item_of (Numbered i) (reach Δ metas)) (eqb-true j m q) ∙ meta_in metas m ∙ ap (option_map (decl_tree itself m)) there,
            subst (λ x. Refines x (decl_tree itself m d)) (same_Some _ _ p) (refines_itself own),
          )
          go false q p = cut_below_reach (parts (decl_of itself d)) (Numbered j) c p

      own_scoped : IsScopedItem (reach Δ metas) (decl_tree itself m d)
      own_scoped =
          scoped_item_over (own ∷ before) (reach Δ metas) own_extends own
          (items_scoped (own ∷ before) (legal.items m (decl_of itself d) (declares metas m d there)) (Numbered m) own (ap (λ b. found_at b own (item_of (Numbered m) before)) (eq-eqb m m refl)))

    -- each item is scoped
    pub reach_scoped : HasScopedItems (reach Δ metas)
    reach_scoped (Named a) d e =
        scoped_item_over Δ (reach Δ metas) (below_reach metas) d (items_scoped Δ legal.environment (Named a) d (constant_below a ∙ sym (constant_in metas a) ∙ e))
    reach_scoped (Numbered m) d e = go (slice_get metas m) refl (sym (meta_in metas m) ∙ e)
      where
        go : (o : Option (Decl Term)) → slice_get metas m ≡ o → option_map (decl_tree itself m) o ≡ Some d → IsScopedItem (reach Δ metas) d
        go None x p = absurd cc
        go (Some c) x p = subst (IsScopedItem (reach Δ metas)) (same_Some _ _ p) (own_scoped m c x)
