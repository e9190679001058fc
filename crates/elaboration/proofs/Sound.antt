-- Elaboration is sound: legal metavariables, of which only dependencies of what was given have got values, and scoped terms.
use Rattle.std.proofs.Common.{◌≡◌, ℕ, ◌<◌, ◌≤◌, List, length, inl, inr, ◌⊎◌, true, Option, Some, None, option_map, refl, sym, ap, ◌∙◌, subst, arith}
use Rattle.std.specs.Prelude.{slice_get, Contains}
use Rattle.std.proofs.lemmas.Bool.{eqb-true, eq-eqb}
use Rattle.std.proofs.lemmas.Option.{same_Some, slice_get_within}
use Rattle.std.proofs.lemmas.List.Elements.{All-nil}
use Rattle.ld_trees.specs.Term.{Head, Named, Numbered, Term, Srt, Var, App, Lam, Pi, Con, Terms, none, ◌▹◌, count}
use Rattle.ld_rules.specs.Environment.{Env, Item as RulesItem, item_of}
use Rattle.ld_rules.specs.ScopedItems.{EachHead, EachHeadOfAll}
use Rattle.ld_rules.proofs.ScopedItems.{items_scoped, each_known, each_known_of_all}
use Rattle.ld_rules.proofs.Lookup.{items_are_found}
use Rattle.ld_confluence.specs.Agreement.{EachHeadOfItem}
use Rattle.ld_terms.specs.declared.globals.Local.{Local}
use Rattle.ld_terms.specs.declared.globals.Item.{Item}
use Rattle.ld_terms.specs.declared.globals.Decl.{Decl}
use Rattle.term_syntax.specs.declared.surface.Surface.{Surface}
use Rattle.conversion.specs.Globals.{decl_tree}
use Rattle.meta_trees.specs.MetaContext.{Decl as RulesDecl, decl}
use Rattle.meta_trees.specs.Dependencies.{occurs, occurs_in, is_meta, and_value, parts, Depends, direct, through}
use Rattle.meta_trees.proofs.Dependencies.{or_split, or_left, or_right}
use Rattle.meta_context.specs.Plain.{rules_ctx, rules_env}
use Rattle.meta_context.specs.Stored.{decl_of}
use Rattle.meta_context.proofs.Stored.{decl_means}
use Rattle.meta_laws.specs.Legality.{IsLegalMetas}
use Rattle.goal_state.specs.State.{rules_metas}
use Rattle.unification.specs.Refusals.{Plain}
use Rattle.unification.specs.Metavariables.{reach}
use Rattle.unification.specs.Laws.{IsNear}
use Rattle.unification.proofs.Gives.{Gives, given, gives_less}
use Rattle.unification.proofs.Declarations.{extend_itself, declares}
use Rattle.unification.proofs.Sound.{unifying_is_sound}
use Rattle.unification.proofs.Footprint.{unifying_has_footprint}
use Rattle.elaboration.specs.Elaboration.{Made, Want, Any, Of, AsType, elaborate, started, standing}
use Rattle.elaboration.specs.Laws.{MaySetOut, IsNew, IsElaborated, SynthesisIsSound, CheckingIsSound, CheckingTypesIsSound}
use Rattle.elaboration.proofs.Reach.{itself, constant_in, constant_below, meta_in, no_meta_below}
use Rattle.elaboration.proofs.Standing.{InSet, IsClosed, UnifiesWithin, IsGood, HasContext, HasWant}
use Rattle.elaboration.proofs.Nodes.{IsDone, elaborate_gives}

-- ---- what speaks of a set alone

module _ (D : ℕ → Type 0) where
  in_set : (h : Head) → ((k : ℕ) → is_meta k h ≡ true → D k) → InSet D h
  in_set (Named a) f = tt
  in_set (Numbered m) f = f m (eq-eqb m m refl)

  mutual
    pub each_in_set : (t : Term) → ((k : ℕ) → occurs k t ≡ true → D k) → EachHead (InSet D) t
    each_in_set (Srt s) f = tt
    each_in_set (Var i) f = tt
    each_in_set (App g a) f = (each_in_set g (λ k w. f k (or_left (occurs k g) _ w)), each_in_set a (λ k w. f k (or_right (occurs k g) _ w)))
    each_in_set (Lam A M) f = (each_in_set A (λ k w. f k (or_left (occurs k A) _ w)), each_in_set M (λ k w. f k (or_right (occurs k A) _ w)))
    each_in_set (Pi A B) f = (each_in_set A (λ k w. f k (or_left (occurs k A) _ w)), each_in_set B (λ k w. f k (or_right (occurs k A) _ w)))
    each_in_set (Con h us) f = (in_set h (λ k w. f k (or_left (is_meta k h) _ w)), all_in_set us (λ k w. f k (or_right (is_meta k h) _ w)))

    pub all_in_set : (us : Terms) → ((k : ℕ) → occurs_in k us ≡ true → D k) → EachHeadOfAll (InSet D) us
    all_in_set none f = tt
    all_in_set (us ▹ u) f = (all_in_set us (λ k w. f k (or_left (occurs_in k us) _ w)), each_in_set u (λ k w. f k (or_right (occurs_in k us) _ w)))

  -- and what occurs in a term of the set is of it
  meta_in_set : (k : ℕ) (h : Head) → InSet D h → is_meta k h ≡ true → D k
  meta_in_set k (Named a) i w = absurd cc
  meta_in_set k (Numbered m) i w = subst D (eqb-true m k w) i

  mutual
    each_is_in : (k : ℕ) (t : Term) → EachHead (InSet D) t → occurs k t ≡ true → D k
    each_is_in k (Srt s) i w = absurd cc
    each_is_in k (Var n) i w = absurd cc
    each_is_in k (App f a) i w = elim (or_split (occurs k f) _ w) [ inl e ↦ each_is_in k f i.0 e | inr e ↦ each_is_in k a i.1 e ]
    each_is_in k (Lam A M) i w = elim (or_split (occurs k A) _ w) [ inl e ↦ each_is_in k A i.0 e | inr e ↦ each_is_in k M i.1 e ]
    each_is_in k (Pi A B) i w = elim (or_split (occurs k A) _ w) [ inl e ↦ each_is_in k A i.0 e | inr e ↦ each_is_in k B i.1 e ]
    each_is_in k (Con h us) i w = elim (or_split (is_meta k h) _ w) [ inl e ↦ meta_in_set k h i.0 e | inr e ↦ all_are_in k us i.1 e ]

    all_are_in : (k : ℕ) (us : Terms) → EachHeadOfAll (InSet D) us → occurs_in k us ≡ true → D k
    all_are_in k none i w = absurd cc
    all_are_in k (us ▹ u) i w = elim (or_split (occurs_in k us) _ w) [ inl e ↦ all_are_in k us i.0 e | inr e ↦ each_is_in k u i.1 e ]

  parts_are_in : (m : ℕ) (d : Decl Term) → EachHeadOfItem (InSet D) (decl_tree itself m d) → (k : ℕ) → occurs_in k (parts (decl_of itself d)) ≡ true → D k
  parts_are_in m d x k w = go (option_map itself d.value) (λ M p. x.body M p) w
    where
      early : occurs_in k (rules_ctx d.ctx ▹ d.ty) ≡ true → D k
      early e = all_are_in k (rules_ctx d.ctx ▹ d.ty) (x.params, x.ty) e

      go : (o : Option Term) → ((M : Term) → o ≡ Some M → EachHead (InSet D) M) → occurs_in k (and_value (rules_ctx d.ctx ▹ d.ty) o) ≡ true → D k
      go None f e = early e
      go (Some v) f e = elim (or_split (occurs_in k (rules_ctx d.ctx ▹ d.ty)) _ e) [ inl z ↦ early z | inr z ↦ each_is_in k v (f v refl) z ]

  -- a declaration of which each part speaks of the set
  decl_in_set : (m : ℕ) (d : Decl Term) → ((k : ℕ) → occurs_in k (parts (decl_of itself d)) ≡ true → D k) → EachHeadOfItem (InSet D) (decl_tree itself m d)
  decl_in_set m d f = go d.value refl
    where
      before : (k : ℕ) → occurs_in k (rules_ctx d.ctx ▹ d.ty) ≡ true → (o : Option Term) → occurs_in k (and_value (rules_ctx d.ctx ▹ d.ty) o) ≡ true
      before k w None = w
      before k w (Some v) = or_left (occurs_in k (rules_ctx d.ctx ▹ d.ty)) _ w

      go : (o : Option Term) → d.value ≡ o → EachHeadOfItem (InSet D) (decl_tree itself m d)
      go o e = record {
        params = all_in_set (rules_ctx d.ctx) (λ k w. f k (before k (or_left (occurs_in k (rules_ctx d.ctx)) _ w) (option_map itself d.value)));
        ty = each_in_set d.ty (λ k w. f k (before k (or_right (occurs_in k (rules_ctx d.ctx)) _ w) (option_map itself d.value)));
        body = λ M p. each_in_set M (λ k w. f k (subst (λ o. occurs_in k (and_value (rules_ctx d.ctx ▹ d.ty) o) ≡ true) (sym p) (or_right (occurs_in k (rules_ctx d.ctx ▹ d.ty)) _ w)));
      }

module _ (items : List (Item Term)) where
  abbrev Δ : Env
  Δ = rules_env items

  -- constants speak of no metavariable
  named_in_set : (D : ℕ → Type 0) (metas : Plain) → IsLegalMetas Δ (rules_metas metas) → (d : RulesItem) → Contains Δ d → InSet D d.name
  named_in_set D metas ok d c = go d.name refl
    where
      go : (h : Head) → d.name ≡ h → InSet D h
      go (Named a) e = tt
      go (Numbered m) e = absurd (let p = (items_are_found Δ (Numbered m) d ok.environment).1 (c, e) in let q = sym (no_meta_below items m) ∙ p in cc)

  constant_closed : (D : ℕ → Type 0) (metas : Plain) → IsLegalMetas Δ (rules_metas metas) → (a : List ℕ) (d : RulesItem) → item_of (Named a) (reach Δ metas) ≡ Some d → EachHeadOfItem (InSet D) d
  constant_closed D metas ok a d e =
      let named = named_in_set D metas ok in
      let s = items_scoped Δ ok.environment (Named a) d (constant_below items a ∙ sym (constant_in items metas a) ∙ e) in
      record {
        params = each_known_of_all Δ (InSet D) named d.params s.params_known;
        ty = each_known Δ (InSet D) named d.ty s.ty.1;
        body = λ M p. each_known Δ (InSet D) named M (s.body M p).1;
      }

  -- the metavariables that X depends on, and those that aren't declared, speak of such alone
  pub near_closed : (metas : Plain) (X : Terms) → IsLegalMetas Δ (rules_metas metas) → IsClosed (IsNear metas X) (reach Δ metas)
  near_closed metas X ok (Named a) d i e = constant_closed (IsNear metas X) metas ok a d e
  near_closed metas X ok (Numbered m) d i e = go (slice_get metas m) refl (sym (meta_in items metas m) ∙ e) i
    where
      go : (o : Option (Decl Term)) → slice_get metas m ≡ o → option_map (decl_tree itself m) o ≡ Some d → IsNear metas X m → EachHeadOfItem (InSet (IsNear metas X)) d
      go None q p i = absurd cc
      go (Some c) q p (inl past) = absurd (let l = slice_get_within metas m c q in omega arith)
      go (Some c) q p (inr D) = subst (EachHeadOfItem (InSet (IsNear metas X))) (same_Some _ _ p) (decl_in_set (IsNear metas X) m c (λ k w. inr (through (decl_of itself c) D (declares metas m c q) w)))

  -- ---- unification within a closed set

  module _ (D : ℕ → Type 0) (metas : Plain) (closed : IsClosed D (reach Δ metas)) where
    item_closed : (m k : ℕ) (d : RulesDecl) → D m → decl m (rules_metas metas) ≡ Some d → occurs_in k (parts d) ≡ true → D k
    item_closed m k d i e w = go (slice_get metas m) refl (sym (decl_means itself m metas) ∙ e)
      where
        go : (o : Option (Decl Term)) → slice_get metas m ≡ o → option_map (decl_of itself) o ≡ Some d → D k
        go None q p = absurd cc
        go (Some c) q p =
            let x = closed (Numbered m) (decl_tree itself m c) i (meta_in items metas m ∙ ap (option_map (decl_tree itself m)) q) in
            parts_are_in D m c x k (subst (λ y. occurs_in k (parts y) ≡ true) (sym (same_Some _ _ p)) w)

    pub dependency_in : {X : Terms} {k : ℕ} → EachHeadOfAll (InSet D) X → Depends (rules_metas metas) X k → D k
    dependency_in {X} {k} i (direct w) = all_are_in D k X i w
    dependency_in {k = k} i (through {m = m} d E e w) = item_closed m k d (dependency_in i E) e w

  pub unifies_within : (D : ℕ → Type 0) → UnifiesWithin Δ D
  unifies_within D metas after d n left a b ok closed fresh ka kb ia ib e =
      let s = unifying_is_sound Δ metas after d n left a b ok ka kb e in
      let f = unifying_has_footprint Δ metas after d n left a b ok ka kb e in
      let near = near_in D metas closed fresh a b ia ib in
      record {
        legal = s.0;
        extend = s.1;
        closed = after_closed D metas after s.0 closed (λ k c q. f.spoken k c q) near;
        others = λ k l no. f.others k l (λ E. no (near k (inr E)));
      }
    where
      near_in : (D : ℕ → Type 0) (metas : Plain) → IsClosed D (reach Δ metas) → ((k : ℕ) → length metas ≤ k → D k) → (a b : Term) → EachHead (InSet D) a → EachHead (InSet D) b → (k : ℕ) → IsNear metas (none ▹ a ▹ b) k → D k
      near_in D metas closed fresh a b ia ib k (inl l) = fresh k l
      near_in D metas closed fresh a b ia ib k (inr E) = dependency_in D metas closed ((tt, ia), ib) E

      after_closed : (D : ℕ → Type 0) (metas after : Plain) → IsLegalMetas Δ (rules_metas after) → IsClosed D (reach Δ metas)
          → ((k : ℕ) (c : Decl Term) → slice_get after k ≡ Some c → (slice_get metas k ≡ Some c) ⊎ ((j : ℕ) → occurs_in j (parts (decl_of itself c)) ≡ true → IsNear metas (none ▹ a ▹ b) j))
          → ((k : ℕ) → IsNear metas (none ▹ a ▹ b) k → D k) → IsClosed D (reach Δ after)
      after_closed D metas after ok closed spoken near (Named x) d i e = constant_closed D after ok x d e
      after_closed D metas after ok closed spoken near (Numbered m) d i e = go (slice_get after m) refl (sym (meta_in items after m) ∙ e)
        where
          go : (o : Option (Decl Term)) → slice_get after m ≡ o → option_map (decl_tree itself m) o ≡ Some d → EachHeadOfItem (InSet D) d
          go None q p = absurd cc
          go (Some c) q p = elim (spoken m c q) [
            | inl old ↦ closed (Numbered m) d i (meta_in items metas m ∙ ap (option_map (decl_tree itself m)) old ∙ p)
            | inr speaks ↦ subst (EachHeadOfItem (InSet D)) (same_Some _ _ p) (decl_in_set D m c (λ k w. near k (speaks k w)))
          ]

  -- ---- the three calls

  -- of what is elaborated from the terms X
  module _ (metas : Plain) (Γ : List (Local Term)) (X : Terms) (may : MaySetOut Δ metas Γ) where
    abbrev Set : ℕ → Type 0
    Set = IsNear metas X

    later : (k : ℕ) → length metas ≤ k → IsNear metas X k
    later k l = inl l

    begins : IsGood items metas Set (started items metas)
    begins = record {
      metas = record { legal = may.legal; extend = extend_itself metas; closed = near_closed metas X may.legal; others = λ k l no. refl };
      goals = All-nil (IsNew metas metas);
      once = tt;
      holes = All-nil (λ h. IsNew metas metas h.0);
    }

    context : ((k : ℕ) → occurs_in k (rules_ctx Γ) ≡ true → occurs_in k X ≡ true) → HasContext items metas Set metas Γ
    context f = record { legal = may.context; inside = all_in_set Set (rules_ctx Γ) (λ k w. inr (direct (f k w))) }

    ends : (want : Want) (m : Made) → IsDone items metas Set later (unifies_within Set) want (started items metas) (count (rules_ctx Γ)) m → IsElaborated Δ metas Γ X m
    ends want m d =
        let good = d.made.after.good in
        record {
          legal = good.metas.legal;
          extend = good.metas.extend;
          others = λ k l apart. good.metas.others k l (far k l apart);
          term = d.made.term.scoped;
          ty = d.made.ty.scoped;
          goals = good.goals;
          once = good.once;
          holes = good.holes;
        }
      where
        far : (k : ℕ) → k < length metas → (Depends (rules_metas metas) X k → ⊥) → IsNear metas X k → ⊥
        far k l apart (inl past) = absurd (omega arith)
        far k l apart (inr E) = apart E

    pub elaborated : ((k : ℕ) → occurs_in k (rules_ctx Γ) ≡ true → occurs_in k X ≡ true) → (t : Surface) (want : Want) → HasWant items metas Set metas (count (rules_ctx Γ)) want
        → Gives (IsElaborated Δ metas Γ X) (elaborate items t want (started items metas) (standing items Γ))
    elaborated f t want j =
        gives_less (ends want) (elaborate_gives items metas Set later (unifies_within Set) t want (started items metas) (standing items Γ) begins (context f) j)

pub synthesis_is_sound : SynthesisIsSound
synthesis_is_sound items metas Γ t m n left may e = given (elaborated items metas Γ (rules_ctx Γ) may (λ k w. w) t Any tt) n left m e

pub checking_is_sound : CheckingIsSound
checking_is_sound items metas Γ t T m n left may scoped e =
    let X = rules_ctx Γ ▹ T in
    let inside = each_in_set (IsNear metas X) T (λ k w. inr (direct (or_right (occurs_in k (rules_ctx Γ)) _ w))) in
    given (elaborated items metas Γ X may (λ k w. or_left (occurs_in k (rules_ctx Γ)) _ w) t (Of T) (record { scoped = scoped; inside = inside })) n left m e

pub checking_types_is_sound : CheckingTypesIsSound
checking_types_is_sound items metas Γ t m n left may e = given (elaborated items metas Γ (rules_ctx Γ) may (λ k w. w) t AsType tt) n left m e
