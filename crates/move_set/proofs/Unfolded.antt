-- Terms in which bodies stand for constants and metavariables: they are scoped, and speak of a closed set of metavariables alone, where the
-- terms and the bodies do.
use Rattle.std.proofs.Common.{◌≡◌, ℕ, zero, suc, List, length, Bool, true, false, nat_eq, Option, Some, None, option_map, option_and_then, refl, sym, ap, ◌∙◌, subst, if◌then◌else◌}
use Rattle.std.specs.Prelude.{slice_get}
use Rattle.std.specs.Str.{bytes_eq}
use Rattle.std.proofs.lemmas.Option.{same_Some}
use Rattle.std.proofs.lemmas.Slice.Eq.{bytes_eq-Decides}
use Rattle.ld_trees.specs.Term.{Head, Named, Numbered, Term, Srt, Var, App, Lam, Pi, Con, Terms, none, ◌▹◌, count}
use Rattle.ld_trees.specs.Scoping.{AllScoped}
use Rattle.ld_rules.specs.Environment.{Env, Item as RulesItem, item_of}
use Rattle.ld_rules.specs.Expansion.{Bodies, expanded, expand, expand_all}
use Rattle.ld_rules.specs.Scoping.{AllKnown, IsKnown}
use Rattle.ld_rules.specs.ScopedItems.{IsScopedAt, EachHead, EachHeadOfAll}
use Rattle.ld_rules.proofs.Removal.{expand_count}
use Rattle.ld_rules.proofs.ScopedItems.{all_put_in}
use Rattle.ld_confluence.proofs.Heads.{each_arguments}
use Rattle.ld_terms.specs.Items.{item_named}
use Rattle.ld_terms.specs.declared.globals.Item.{Item}
use Rattle.ld_terms.specs.declared.globals.Decl.{Decl}
use Rattle.term_syntax.specs.Lex.{Text}
use Rattle.conversion.specs.Globals.{item_tree, decl_tree}
use Rattle.meta_trees.specs.MetaContext.{Decl as RulesDecl, Metas, decl}
use Rattle.meta_context.specs.Plain.{rules_env}
use Rattle.meta_context.specs.Stored.{decl_of}
use Rattle.meta_context.proofs.Stored.{decl_means}
use Rattle.meta_laws.specs.Legality.{IsLegalMetas}
use Rattle.meta_laws.specs.Unfolding.{value_in, values, unfold_metas}
use Rattle.goal_state.specs.State.{rules_metas}
use Rattle.unification.specs.Refusals.{Plain}
use Rattle.unification.specs.Metavariables.{reach}
use Rattle.elaboration.proofs.Reach.{itself, constant_in, meta_in, reach_scoped}
use Rattle.elaboration.proofs.Standing.{InSet, IsClosed, HasTerm}
use Rattle.move_set.specs.Replacing.{body_for, replaced}

-- ---- a scoped term of which each constant has a property

module _ (E : Env) (P : Head → Type 0) where
  abbrev pub IsFine : ℕ → Term → Type 0
  IsFine n t = IsScopedAt E n t × EachHead P t

  -- what holds of arguments
  record AreFine (n : ℕ) (us : Terms) : Type 0 where
    pub scoped : AllScoped n us
    pub known : AllKnown E us
    pub inside : EachHeadOfAll P us

  module _ (V : Bodies) (bodies : (h : Head) (i : RulesItem) (B : Term) → P h → item_of h E ≡ Some i → V h (count i.params) ≡ Some B → IsFine (count i.params) B) where
    expanded_fine : (h : Head) (us : Terms) (n : ℕ) (o : Option Term) → V h (count us) ≡ o → IsKnown E h (count us) → P h → AreFine n (expand_all V us) → IsFine n (expanded o h (expand_all V us))
    expanded_fine h us n None e k p f = ((f.scoped, ((k.0, k.1, expand_count V us ∙ k.2), f.known)), (p, f.inside))
    expanded_fine h us n (Some B) e k p f =
        let b = bodies h k.0 B p k.1 (ap (V h) (sym k.2) ∙ e) in
        let body : IsScopedAt E (count (expand_all V us)) B = subst (λ m. IsScopedAt E m B) (sym (expand_count V us ∙ k.2)) b.0 in
        (all_put_in E n (expand_all V us) B f.scoped f.known body, each_arguments P (expand_all V us) B f.inside b.1)

    mutual
      pub expand_fine : (t : Term) (n : ℕ) → IsScopedAt E n t → EachHead P t → IsFine n (expand V t)
      expand_fine (Srt s) n s' p = ((tt, tt), tt)
      expand_fine (Var i) n s p = ((s.0, tt), tt)
      expand_fine (App f a) n s p = let x = expand_fine f n (s.0.0, s.1.0) p.0 in let y = expand_fine a n (s.0.1, s.1.1) p.1 in (((x.0.0, y.0.0), (x.0.1, y.0.1)), (x.1, y.1))
      expand_fine (Lam A M) n s p = let x = expand_fine A n (s.0.0, s.1.0) p.0 in let y = expand_fine M (suc n) (s.0.1, s.1.1) p.1 in (((x.0.0, y.0.0), (x.0.1, y.0.1)), (x.1, y.1))
      expand_fine (Pi A B) n s p = let x = expand_fine A n (s.0.0, s.1.0) p.0 in let y = expand_fine B (suc n) (s.0.1, s.1.1) p.1 in (((x.0.0, y.0.0), (x.0.1, y.0.1)), (x.1, y.1))
      expand_fine (Con h us) n s p = expanded_fine h us n (V h (count us)) refl s.1.0 p.0 (expand_all_fine us n s.0 s.1.1 p.1)

      expand_all_fine : (us : Terms) (n : ℕ) → AllScoped n us → AllKnown E us → EachHeadOfAll P us → AreFine n (expand_all V us)
      expand_all_fine none n s k p = record { scoped = tt; known = tt; inside = tt }
      expand_all_fine (us ▹ u) n s k p =
          let x = expand_all_fine us n s.0 k.0 p.0 in
          let y = expand_fine u n (s.1, k.1) p.1 in
          record { scoped = (x.scoped, y.0.0); known = (x.known, y.0.1); inside = (x.inside, y.1) }

-- ---- metavariables unfolded

-- what stands for a metavariable is its value, in which bodies stand
record IsValue (V : Bodies) (o : Option RulesDecl) (B : Term) : Type 0 where
  pub value : Term
  pub is : (d : RulesDecl) → o ≡ Some d → d.value ≡ Some value
  pub body : expand V value ≡ B

value_found : (V : Bodies) (k : ℕ) (o : Option RulesDecl) (B : Term) → value_in V k o ≡ Some B → IsValue V o B
value_found V k None B e = absurd cc
value_found V k (Some c) B e = by (nat_eq k (count c.ctx)) c.value refl e
  where
    by : (b : Bool) (o : Option Term) → c.value ≡ o → (if b then option_map (λ v. expand V v) o else None) ≡ Some B → IsValue V (Some c) B
    by true None q e = absurd cc
    by true (Some v) q e = record { value = v; is = λ d p. ap (λ (d : RulesDecl). d.value) (sym (same_Some c d p)) ∙ q; body = same_Some (expand V v) B e }
    by false o q e = absurd cc

module _ (items : List (Item Term)) (base : Plain) (ok : IsLegalMetas (rules_env items) (rules_metas base)) (D : ℕ → Type 0) (closed : IsClosed D (reach (rules_env items) base)) where
  abbrev E : Env
  E = reach (rules_env items) base

  abbrev Σ : Metas
  Σ = rules_metas base

  abbrev Fine : ℕ → Term → Type 0
  Fine n t = IsFine E (InSet D) n t

  -- the body of an item that is found
  found_body : (h : Head) (i : RulesItem) (v : Term) → InSet D h → item_of h E ≡ Some i → i.body ≡ Some v → Fine (count i.params) v
  found_body h i v p e q = let s = reach_scoped items base ok h i e in let c = closed h i p e in (s.body v q, c.body v q)

  values_fine : (r : ℕ) (h : Head) (i : RulesItem) (B : Term) → InSet D h → item_of h E ≡ Some i → values Σ r h (count i.params) ≡ Some B → Fine (count i.params) B
  values_fine zero h i B p e q = absurd cc
  values_fine (suc r) (Named a) i B p e q = absurd cc
  values_fine (suc r) (Numbered m) i B p e q =
      let f = value_found (λ h k. values Σ r h k) (count i.params) (decl m Σ) B q in
      let body : i.body ≡ Some f.value = by f (slice_get base m) refl in
      let v = found_body (Numbered m) i f.value p e body in
      subst (Fine (count i.params)) f.body (expand_fine E (InSet D) (λ h k. values Σ r h k) (values_fine r) f.value (count i.params) v.0 v.1)
    where
      by : (f : IsValue (λ h k. values Σ r h k) (decl m Σ) B) (o : Option (Decl Term)) → slice_get base m ≡ o → i.body ≡ Some f.value
      by f None s = absurd (let x : None ≡ Some i = ap (option_map (decl_tree itself m)) (sym s) ∙ sym (meta_in items base m) ∙ e in cc)
      by f (Some c) s =
          let same : decl_tree itself m c ≡ i = same_Some _ _ (ap (option_map (decl_tree itself m)) (sym s) ∙ sym (meta_in items base m) ∙ e) in
          ap (λ (i : RulesItem). i.body) (sym same) ∙ f.is (decl_of itself c) (decl_means itself m base ∙ ap (option_map (decl_of itself)) s)

  pub unfolded_fine : (t : Term) (n : ℕ) → IsScopedAt E n t → EachHead (InSet D) t → Fine n (unfold_metas Σ t)
  unfolded_fine t n s p = expand_fine E (InSet D) (λ h k. values Σ (length Σ) h k) (values_fine (length Σ)) t n s p

  -- ---- a definition put in

  module _ (a : Text) (M : Term) (defined : option_and_then (λ (i : Item Term). i.body) (item_named items a) ≡ Some M) where
    named_body : (i : RulesItem) → item_of (Named a) E ≡ Some i → i.body ≡ Some M
    named_body i e = by (item_named items a) refl defined
      where
        by : (o : Option (Item Term)) → item_named items a ≡ o → option_and_then (λ (i : Item Term). i.body) o ≡ Some M → i.body ≡ Some M
        by None s d = absurd cc
        by (Some j) s d =
            let same : item_tree itself j ≡ i = same_Some _ _ (ap (option_map (item_tree itself)) (sym s) ∙ sym (constant_in items base a) ∙ e) in
            ap (λ (i : RulesItem). i.body) (sym same) ∙ ap (option_map itself) d

    body_fine : (h : Head) (i : RulesItem) (B : Term) → InSet D h → item_of h E ≡ Some i → body_for a M h (count i.params) ≡ Some B → Fine (count i.params) B
    body_fine (Numbered m) i B p e q = absurd cc
    body_fine (Named b) i B p e q = by (bytes_eq b a) refl q
      where
        by : (c : Bool) → bytes_eq b a ≡ c → (if c then Some M else None) ≡ Some B → Fine (count i.params) B
        by false s q = absurd cc
        by true s q =
            let same : b ≡ a = (bytes_eq-Decides b a).0 s in
            let there : item_of (Named a) E ≡ Some i = ap (λ x. item_of (Named x) E) (sym same) ∙ e in
            found_body (Named a) i B tt there (named_body i there ∙ q)

    replaced_fine : (t : Term) (n : ℕ) → IsScopedAt E n t → EachHead (InSet D) t → Fine n (replaced a M t)
    replaced_fine t n s p = expand_fine E (InSet D) (body_for a M) body_fine t n s p

    -- a term with assigned metavariables unfolded and the definition put in
    pub opened_has : (n : ℕ) (t : Term) → HasTerm items base D base n t → HasTerm items base D base n (replaced a M (unfold_metas Σ t))
    opened_has n t h =
        let u = unfolded_fine t n h.scoped h.inside in
        let r = replaced_fine (unfold_metas Σ t) n u.0 u.1 in
        record { scoped = r.0; inside = r.1 }
