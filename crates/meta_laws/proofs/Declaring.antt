-- Declaring the next number keeps legality.
use Rattle.std.proofs.Common.{◌≡◌, ℕ, zero, suc, ◌<◌, [], ◌∷◌, ◌++◌, ◌⊎◌, inl, inr, true, Option, Some, None, refl, sym, ap, subst as transport, subst₂ as transport₂, length, arith}
use Rattle.std.proofs.lemmas.Option.{same_Some}
use Rattle.ld_trees.specs.Term.{◌▹◌, Term, Sort, Srt, Terms}
use Rattle.ld_rules.specs.Environment.{Env, Ctx}
use Rattle.ld_rules.specs.Derivation.{Derives}
use Rattle.ld_rules.proofs.Environments.{newest}
use Rattle.meta_trees.specs.MetaContext.{declare, decl, Metas, Decl, unassigned, Keeps}
use Rattle.meta_trees.specs.Dependencies.{parts, occurs, occurs_in, and_value, Depends, direct, through}
use Rattle.meta_laws.specs.Cut.{cut, order}
use Rattle.meta_laws.specs.Legality.{IsLegalMetas}
use Rattle.meta_laws.specs.Laws.{DeclaringKeepsLegality}
use Rattle.meta_trees.proofs.Dependencies.{declared_below, or_left, or_right, or_split}
use Rattle.meta_laws.proofs.Order.{NoCycle, acyclic}
use Rattle.meta_laws.proofs.Items.{undeclared_new, cut_from}
use Rattle.meta_laws.proofs.Legal.{IsSmaller, justified, IsJustified, AreJustified, made_legal}
use Rattle.meta_laws.proofs.Growing.{judged_dependency, keeps_decl_itself, from_grow, depends_grow, justified_grow}

-- in a legal metavariable context each metavariable of a declaration is declared
pub parts_declared : {Δ : Env} {Σ : Metas} → IsLegalMetas Δ Σ → (m k : ℕ) (d : Decl) → decl m Σ ≡ Some d → occurs_in k (parts d) ≡ true → k < length Σ
parts_declared {Δ} {Σ} ok m k d p w = go d.value refl w
  where
    early : occurs_in k (d.ctx ▹ d.ty) ≡ true → k < length Σ
    early h = let a = ok.smaller m k d p h in let b = declared_below Σ m d p in omega arith

    late : (v : Term) → d.value ≡ Some v → occurs k v ≡ true → k < length Σ
    late v e a =
        let dv : Derives (cut Σ Δ (parts d)) d.ctx v d.ty = (newest (ok.items m d p)).1.body v e in
        (judged_dependency Δ Σ (parts d) ok dv k (or_left (occurs_in k (d.ctx ▹ v)) _ (or_right (occurs_in k d.ctx) _ a))).0

    go : (o : Option Term) → d.value ≡ o → occurs_in k (and_value (d.ctx ▹ d.ty) o) ≡ true → k < length Σ
    go None e h = early h
    go (Some v) e h = elim (or_split (occurs_in k (d.ctx ▹ d.ty)) _ h) [ inl a ↦ early a | inr a ↦ late v e a ]

pub decl_kept : (Σ : Metas) (n : Decl) (j : ℕ) (e : Decl) → decl j Σ ≡ Some e → decl j (Σ ++ (n ∷ [])) ≡ Some e
decl_kept [] n j e p = absurd cc
decl_kept (d ∷ Σ) n zero e p = p
decl_kept (d ∷ Σ) n (suc j) e p = decl_kept Σ n j e p

pub decl_next : (Σ : Metas) → decl (length Σ) Σ ≡ None
decl_next [] = refl
decl_next (d ∷ Σ) = decl_next Σ

-- a declaration after it is an old one or the new one
pub decl_either : (Σ : Metas) (n : Decl) (j : ℕ) (e : Decl) → decl j (Σ ++ (n ∷ [])) ≡ Some e → (decl j Σ ≡ Some e) ⊎ ((j ≡ length Σ) × (e ≡ n))
decl_either [] n zero e p = inr (refl, sym (same_Some n e p))
decl_either [] n (suc j) e p = absurd cc
decl_either (d ∷ Σ) n zero e p = inl p
decl_either (d ∷ Σ) n (suc j) e p = elim (decl_either Σ n j e p) [ inl q ↦ inl q | inr q ↦ inr (ap suc q.0, q.1) ]

module _ (Δ : Env) (Σ : Metas) (Γ : Ctx) (T : Term) (s : Sort) (ok : IsLegalMetas Δ Σ) (typed : Derives (cut Σ Δ (Γ ▹ T)) Γ T (Srt s)) where
  abbrev New : Decl
  New = unassigned Γ T

  abbrev After : Metas
  After = declare Γ T Σ

  declare_keeps : Keeps Σ After
  declare_keeps j e p = (e, decl_kept Σ New j e p, keeps_decl_itself e)

  -- what is old depends on what is old
  old_dependency : {X : Terms} {k : ℕ} → ((j : ℕ) → occurs_in j X ≡ true → j < length Σ) → Depends After X k → (k < length Σ) × Depends Σ X k
  old_dependency f (direct w) = (f _ w, direct w)
  old_dependency {X} {k} f (through {m = j} e E q w) = go (old_dependency f E) (decl_either Σ New j e q)
    where
      go : (j < length Σ) × Depends Σ X j → (decl j Σ ≡ Some e) ⊎ ((j ≡ length Σ) × (e ≡ New)) → (k < length Σ) × Depends Σ X k
      go D (inl r) = (parts_declared ok j k e r w, through e D.1 r w)
      go D (inr r) = absurd (let a = D.0 in let b = r.0 in omega arith)

  new_declared : (k : ℕ) → occurs_in k (Γ ▹ T) ≡ true → k < length Σ
  new_declared k w = (judged_dependency Δ Σ (Γ ▹ T) ok typed k (or_left (occurs_in k (Γ ▹ T)) _ w)).0

  smaller_after : IsSmaller After
  smaller_after j k e q w = elim (decl_either Σ New j e q) [
    | inl r ↦ ok.smaller j k e r w
    | inr r ↦ transport (λ i. k < i) (sym r.0) (new_declared k (transport (λ x. occurs_in k (x.ctx ▹ x.ty) ≡ true) r.1 w))
  ]

  no_cycle : NoCycle After
  no_cycle j e q D = elim (decl_either Σ New j e q) [
    | inl r ↦ ok.acyclic j e r (old_dependency (λ i w. parts_declared ok j i e r w) D).1
    | inr r ↦
        let h : j < length Σ = (old_dependency (λ i w. new_declared i w) (transport (λ x. Depends After (parts x) j) r.1 D)).0 in
        let a = r.0 in
        absurd (omega arith)
  ]

  new_justified : IsJustified After Δ (length Σ) New
  new_justified =
      let X = Γ ▹ T in
      record {
        within = cut Σ Δ X;
        may = record { fresh = undeclared_new Σ Δ (order Σ X) (length Σ) ok.constants (decl_next Σ); body = λ M e. absurd cc; primitive = λ e. (s, typed) };
        from = from_grow (cut Σ Δ X) Σ After Δ (Depends Σ X) (Depends After X) declare_keeps (λ i D. depends_grow declare_keeps D) (cut_from Σ Δ X (acyclic Σ ok.acyclic));
      }

  justified_after : AreJustified After Δ
  justified_after j e q = elim (decl_either Σ New j e q) [
    | inl r ↦ justified_grow Σ After Δ j e declare_keeps (justified ok j e r)
    | inr r ↦ transport₂ (IsJustified After Δ) (sym r.0) (sym r.1) new_justified
  ]

  declared_legal : IsLegalMetas Δ After
  declared_legal = made_legal After Δ ok.constants ok.environment smaller_after no_cycle justified_after

pub declaring_keeps_legality : DeclaringKeepsLegality
declaring_keeps_legality Δ Σ Γ T s ok typed = (declared_legal Δ Σ Γ T s ok typed, declare_keeps Δ Σ Γ T s ok typed)
