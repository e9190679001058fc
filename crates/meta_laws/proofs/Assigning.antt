-- The central law: a value of the right type that doesn't depend on its metavariable keeps legality.
use Rattle.std.proofs.Common.{◌≡◌, ◌≢◌, ℕ, zero, suc, ◌<◌, [], ◌∷◌, ◌⊎◌, inl, inr, Bool, true, false, Some, None, refl, sym, ap, ◌∙◌, subst as transport, subst₂ as transport₂, nat_eq}
use Rattle.std.proofs.lemmas.Bool.{eqb-true, eqb-false}
use Rattle.std.proofs.lemmas.Option.{same_Some}
use Rattle.ld_trees.specs.Term.{◌▹◌, Term, Terms, none, Numbered}
use Rattle.ld_rules.specs.Environment.{Env, item_of}
use Rattle.ld_rules.specs.Derivation.{Derives}
use Rattle.meta_trees.specs.MetaContext.{decl, Metas, Decl, assign, with_value, unassigned, Keeps, KeepsDecl}
use Rattle.meta_trees.specs.Dependencies.{parts, and_value, occurs_in, Depends, through, direct}
use Rattle.meta_laws.specs.Cut.{cut, order}
use Rattle.meta_laws.specs.Legality.{IsLegalMetas}
use Rattle.meta_laws.specs.Laws.{AssigningKeepsLegality, AssigningAddsDependencies}
use Rattle.meta_trees.proofs.Dependencies.{or_split, depends_more}
use Rattle.meta_laws.proofs.Lists.{is_false}
use Rattle.meta_laws.proofs.Order.{dependency, acyclic, NoCycle, order_is}
use Rattle.meta_laws.proofs.Items.{unlisted_new, cut_from}
use Rattle.meta_laws.proofs.Legal.{IsSmaller, justified, IsJustified, AreJustified, made_legal}
use Rattle.meta_laws.proofs.Growing.{keeps_decl_itself, from_grow, depends_grow, justified_grow}

pub decl_own : (m : ℕ) (v : Term) (Σ : Metas) (d : Decl) → decl m Σ ≡ Some d → decl m (assign m v Σ) ≡ Some (with_value v d)
decl_own m v [] d p = absurd cc
decl_own zero v (e ∷ Σ) d p = ap (λ x. Some (with_value v x)) (same_Some e d p)
decl_own (suc m) v (e ∷ Σ) d p = decl_own m v Σ d p

pub decl_other : (m j : ℕ) (v : Term) (Σ : Metas) → j ≢ m → decl j (assign m v Σ) ≡ decl j Σ
decl_other m j v [] e = refl
decl_other zero zero v (d ∷ Σ) e = absurd (e refl)
decl_other zero (suc j) v (d ∷ Σ) e = refl
decl_other (suc m) zero v (d ∷ Σ) e = refl
decl_other (suc m) (suc j) v (d ∷ Σ) e = decl_other m j v Σ (λ q. e (ap suc q))

module _ (Σ : Metas) (m : ℕ) (d : Decl) (v : Term) (p : decl m Σ ≡ Some d) (unassigned : d.value ≡ None) where
  abbrev After : Metas
  After = assign m v Σ

  keeps_valued : KeepsDecl d (with_value v d)
  keeps_valued = record { ctx = refl; ty = refl; value = λ u e. absurd cc }

  pub assign_keeps : Keeps Σ After
  assign_keeps j e q = go (nat_eq j m) refl
    where
      go : (b : Bool) → nat_eq j m ≡ b → (c : Decl) × (decl j After ≡ Some c) × KeepsDecl e c
      go true b =
          let r : j ≡ m = eqb-true j m b in
          let n : d ≡ e = same_Some d e (sym p ∙ transport (λ i. decl i Σ ≡ Some e) r q) in
          (with_value v d, transport (λ i. decl i After ≡ Some (with_value v d)) (sym r) (decl_own m v Σ d p), transport (λ x. KeepsDecl x (with_value v d)) n keeps_valued)
      go false b = (e, decl_other m j v Σ (eqb-false j m b) ∙ q, keeps_decl_itself e)

  -- a declaration after it is an old one or the assigned one
  either : (j : ℕ) (e : Decl) → decl j After ≡ Some e → (decl j Σ ≡ Some e) ⊎ ((j ≡ m) × (e ≡ with_value v d))
  either j e q = go (nat_eq j m) refl
    where
      go : (b : Bool) → nat_eq j m ≡ b → (decl j Σ ≡ Some e) ⊎ ((j ≡ m) × (e ≡ with_value v d))
      go true b =
          let r : j ≡ m = eqb-true j m b in
          inr (r, same_Some e (with_value v d) (sym (transport (λ i. decl i After ≡ Some e) r q) ∙ decl_own m v Σ d p))
      go false b = inl (sym (decl_other m j v Σ (eqb-false j m b)) ∙ q)

  parts_open : parts d ≡ d.ctx ▹ d.ty
  parts_open = ap (and_value (d.ctx ▹ d.ty)) unassigned

  in_parts : (k : ℕ) → occurs_in k (d.ctx ▹ d.ty) ≡ true → occurs_in k (parts d) ≡ true
  in_parts k w = transport (λ Y. occurs_in k Y ≡ true) (sym parts_open) w

  -- a new dependency goes by way of m and its value
  abbrev Old : Terms → ℕ → Type 0
  Old X k = Depends Σ X k ⊎ (Depends Σ X m × Depends Σ (none ▹ v) k)

  by_value : {X : Terms} {k : ℕ} → Depends Σ X m → occurs_in k (d.ctx ▹ d.ty ▹ v) ≡ true → Old X k
  by_value {X} {k} D w = elim (or_split (occurs_in k (d.ctx ▹ d.ty)) _ w) [
    | inl a ↦ inl (through d D p (in_parts k a))
    | inr a ↦ inr (D, direct a)
  ]

  new_dependency : {X : Terms} {k : ℕ} → Depends After X k → Old X k
  new_dependency (direct w) = inl (direct w)
  new_dependency {X} {k} (through {m = j} e E q w) = go (new_dependency E) (either j e q)
    where
      own : (e ≡ with_value v d) → occurs_in k (d.ctx ▹ d.ty ▹ v) ≡ true
      own r = transport (λ x. occurs_in k (parts x) ≡ true) r w

      go : Old X j → (decl j Σ ≡ Some e) ⊎ ((j ≡ m) × (e ≡ with_value v d)) → Old X k
      go (inl D) (inl r) = inl (through e D r w)
      go (inr D) (inl r) = inr (D.0, through e D.1 r w)
      go (inl D) (inr r) = by_value (transport (λ i. Depends Σ X i) r.0 D) (own r.1)
      go (inr D) (inr r) = by_value D.0 (own r.1)

  -- what the declaration with its value depends on
  of_valued : (k : ℕ) → Depends Σ (d.ctx ▹ d.ty ▹ v) k → Depends Σ (parts d) k ⊎ Depends Σ (none ▹ v) k
  of_valued k (direct w) = elim (or_split (occurs_in k (d.ctx ▹ d.ty)) _ w) [ inl a ↦ inl (direct (in_parts k a)) | inr a ↦ inr (direct a) ]
  of_valued k (through {m = j} e E q w) = elim (of_valued j E) [ inl D ↦ inl (through e D q w) | inr D ↦ inr (through e D q w) ]

  module _ (Δ : Env) (ok : IsLegalMetas Δ Σ) (typed : Derives (cut Σ Δ (d.ctx ▹ d.ty ▹ v)) d.ctx v d.ty) (apart : ¬ Depends Σ (none ▹ v) m) where
    smaller_after : IsSmaller After
    smaller_after j k e q w = elim (either j e q) [
      | inl r ↦ ok.smaller j k e r w
      | inr r ↦ transport (λ i. k < i) (sym r.0) (ok.smaller m k d p (transport (λ x. occurs_in k (x.ctx ▹ x.ty) ≡ true) r.1 w))
    ]

    not_itself : ¬ Depends Σ (d.ctx ▹ d.ty ▹ v) m
    not_itself D = elim (of_valued m D) [ inl E ↦ ok.acyclic m d p E | inr E ↦ apart E ]

    no_cycle : NoCycle After
    no_cycle j e q D = go (either j e q) (new_dependency D)
      where
        go : (decl j Σ ≡ Some e) ⊎ ((j ≡ m) × (e ≡ with_value v d)) → Old (parts e) j → ⊥
        go (inl r) (inl D) = ok.acyclic j e r D
        go (inl r) (inr D) = apart (depends_more j e r D.1 D.0)
        go (inr r) (inl D) = not_itself (transport₂ (λ x i. Depends Σ (parts x) i) r.1 r.0 D)
        go (inr r) (inr D) = apart (transport (λ i. Depends Σ (none ▹ v) i) r.0 D.1)

    new_there : item_of (Numbered m) (cut Σ Δ (d.ctx ▹ d.ty ▹ v)) ≡ None
    new_there =
        let X = d.ctx ▹ d.ty ▹ v in
        unlisted_new Σ Δ (order Σ X) m ok.constants (is_false _ (λ h. not_itself (dependency Σ X m (sym ((order_is Σ X (acyclic Σ ok.acyclic)).1 m) ∙ h)).1))

    valued_justified : IsJustified After Δ m (with_value v d)
    valued_justified =
        let X = d.ctx ▹ d.ty ▹ v in
        record {
          within = cut Σ Δ X;
          may = record { fresh = new_there; body = λ M e. transport (λ x. Derives (cut Σ Δ X) d.ctx x d.ty) (same_Some v M e) typed; primitive = λ e. absurd cc };
          from = from_grow (cut Σ Δ X) Σ After Δ (Depends Σ X) (Depends After X) assign_keeps (λ i D. depends_grow assign_keeps D) (cut_from Σ Δ X (acyclic Σ ok.acyclic));
        }

    justified_after : AreJustified After Δ
    justified_after j e q = elim (either j e q) [
      | inl r ↦ justified_grow Σ After Δ j e assign_keeps (justified ok j e r)
      | inr r ↦ transport₂ (IsJustified After Δ) (sym r.0) (sym r.1) valued_justified
    ]

    pub assigned_legal : IsLegalMetas Δ After
    assigned_legal = made_legal After Δ ok.constants ok.environment smaller_after no_cycle justified_after

pub assigning_keeps_legality : AssigningKeepsLegality
assigning_keeps_legality Δ Σ m d v ok p unassigned typed apart = (assigned_legal Σ m d v p unassigned Δ ok typed apart, assign_keeps Σ m d v p unassigned)

pub assigning_adds_dependencies : AssigningAddsDependencies
assigning_adds_dependencies Σ m d v X k p unassigned D = new_dependency Σ m d v p unassigned D
