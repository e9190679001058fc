-- What is left as it was where metavariables are declared and assigned.
use Rattle.std.proofs.Common.{◌≡◌, ℕ, ◌<◌, inl, inr, true, Option, Some, None, refl, sym, ◌∙◌, subst as transport, subst₂ as transport₂, nat_eq, length}
use Rattle.std.proofs.lemmas.Bool.{eq-eqb}
use Rattle.ld_trees.specs.Term.{◌▹◌, Meta, Terms, Term, Var, Numbered, none}
use Rattle.ld_trees.proofs.SubstitutionLaws.{subst_var}
use Rattle.ld_rules.specs.Environment.{Item, Env, item_of, Ctx}
use Rattle.ld_rules.specs.Reduction.{Equal, by_step, delta}
use Rattle.ld_rules.specs.Derivation.{Derives}
use Rattle.ld_rules.specs.Extension.{Refines, Extends}
use Rattle.ld_rules.proofs.Validity.{valid}
use Rattle.ld_rules.proofs.Environments.{change_environment, equality_is_kept}
use Rattle.ld_rules.proofs.KnownConstants.{known, known_context, known_valid}
use Rattle.meta_trees.specs.MetaContext.{Decl, Keeps, KeepsDecl, item, decl, Metas}
use Rattle.meta_trees.specs.Dependencies.{occurs_in, and_value, parts, Depends, direct, through}
use Rattle.meta_laws.specs.Cut.{order, cut}
use Rattle.meta_laws.specs.Legality.{IsLegalMetas}
use Rattle.meta_laws.specs.Laws.{KeepingIsPreorder, CutsGrow, EqualityGrows, ValuesAreEqual, JudgementsAreOfDependencies}
use Rattle.meta_trees.proofs.Dependencies.{or_left, declared_below, depends_wider}
use Rattle.meta_laws.proofs.Order.{acyclic, order_is, is_dependency}
use Rattle.meta_laws.proofs.Items.{AreFrom, IsFrom, cut_from, from_extends, listed_found, Found, found_from, all_known_found}
use Rattle.meta_laws.proofs.Legal.{IsJustified, cuts_are_legal}

pub refines_kept : (j : ℕ) (d c : Decl) → KeepsDecl d c → Refines (item j d) (item j c)
refines_kept j d c k = record { params = k.ctx; ty = k.ty; body = k.value }

refines_more : (a b c : Item) → Refines a b → Refines b c → Refines a c
refines_more a b c p q = record { params = p.params ∙ q.params; ty = p.ty ∙ q.ty; body = λ M e. q.body M (p.body M e) }

pub keeps_decl_itself : (d : Decl) → KeepsDecl d d
keeps_decl_itself d = record { ctx = refl; ty = refl; value = λ v e. e }

pub keeps_itself : (Σ : Metas) → Keeps Σ Σ
keeps_itself Σ m d p = (d, p, keeps_decl_itself d)

pub keeping_is_preorder : KeepingIsPreorder
keeping_is_preorder = (
  keeps_itself,
  λ Σ Σ' Σ'' f g m d p.
      let c = f m d p in
      let b = g m c.0 c.1 in
      (b.0, b.1, record { ctx = c.2.ctx ∙ b.2.ctx; ty = c.2.ty ∙ b.2.ty; value = λ v e. b.2.value v (c.2.value v e) }),
)

-- dependencies stay
value_grows : (k : ℕ) (X : Terms) (o p : Option Term) → ((v : Term) → o ≡ Some v → p ≡ Some v) → occurs_in k (and_value X o) ≡ true → occurs_in k (and_value X p) ≡ true
value_grows k X None None f h = h
value_grows k X None (Some v) f h = or_left (occurs_in k X) _ h
value_grows k X (Some u) p f h = transport (λ q. occurs_in k (and_value X q) ≡ true) (sym (f u refl)) h

parts_grow : (k : ℕ) (d c : Decl) → KeepsDecl d c → occurs_in k (parts d) ≡ true → occurs_in k (parts c) ≡ true
parts_grow k d c r h =
    value_grows k (c.ctx ▹ c.ty) d.value c.value r.value (transport₂ (λ Γ T. occurs_in k (and_value (Γ ▹ T) d.value) ≡ true) r.ctx r.ty h)

pub depends_grow : {Σ Σ' : Metas} {X : Terms} {k : ℕ} → Keeps Σ Σ' → Depends Σ X k → Depends Σ' X k
depends_grow g (direct w) = direct w
depends_grow {k = k} g (through {m = m} d D p w) = let c = g m d p in through c.0 (depends_grow g D) c.1 (parts_grow k d c.0 c.2 w)

pub from_grow : (E : Env) (Σ Σ' : Metas) (Δ : Env) (P Q : ℕ → Type 0) → Keeps Σ Σ' → ((j : ℕ) → P j → Q j) → AreFrom E Σ Δ P → AreFrom E Σ' Δ Q
from_grow E Σ Σ' Δ P Q g f b h c t = go (b h c t)
  where
    go : IsFrom Σ Δ P h c → IsFrom Σ' Δ Q h c
    go (inl q) = inl q
    go (inr q) = let r = g q.0 q.1 q.3 in inr (q.0, r.0, q.2, r.1, f q.0 q.4, refines_more c (item q.0 q.1) (item q.0 r.0) q.5 (refines_kept q.0 q.1 r.0 r.2))

pub justified_grow : (Σ Σ' : Metas) (Δ : Env) (m : ℕ) (d : Decl) → Keeps Σ Σ' → IsJustified Σ Δ m d → IsJustified Σ' Δ m d
justified_grow Σ Σ' Δ m d g j =
    record { within = j.within; may = j.may; from = from_grow j.within Σ Σ' Δ (Depends Σ (parts d)) (Depends Σ' (parts d)) g (λ i D. depends_grow g D) j.from }

-- a cut has the items of each cut with fewer dependencies
pub cut_extends : (Δ : Env) (Σ Σ' : Metas) (X Y : Terms) → IsLegalMetas Δ Σ → IsLegalMetas Δ Σ' → Keeps Σ Σ' → ((k : ℕ) → Depends Σ' X k → Depends Σ' Y k) → Extends (cut Σ Δ X) (cut Σ' Δ Y)
cut_extends Δ Σ Σ' X Y ok ok' g f =
    let b = from_grow (cut Σ Δ X) Σ Σ' Δ (Depends Σ X) (Depends Σ' X) g (λ i D. depends_grow g D) (cut_from Σ Δ X (acyclic Σ ok.acyclic)) in
    from_extends (cut Σ Δ X) Σ' Δ (Depends Σ' X) (order Σ' Y) ok'.constants b (λ j D l. (order_is Σ' Y (acyclic Σ' ok'.acyclic)).1 j ∙ is_dependency Σ' Y j l (f j D))

pub cuts_grow : CutsGrow
cuts_grow Δ Σ Σ' X Y Γ M B ok ok' g f d = change_environment d (cut_extends Δ Σ Σ' X Y ok ok' g f) (cuts_are_legal Δ Σ' Y ok')

pub equality_grows : EqualityGrows
equality_grows Δ Σ Σ' X Y a b ok ok' g f e =
    transport₂ (λ x y. Equal (cut Σ' Δ Y) x y) (subst_var a) (subst_var b) (equality_is_kept (cut Σ Δ X) (cut Σ' Δ Y) Var a b (cuts_are_legal Δ Σ X ok) (cut_extends Δ Σ Σ' X Y ok ok' g f) e)

-- a dependency that is declared is found in the cut
pub dependency_found : (Δ : Env) (Σ : Metas) (X : Terms) (m : ℕ) (d : Decl) → IsLegalMetas Δ Σ → Depends Σ X m → decl m Σ ≡ Some d → item_of (Numbered m) (cut Σ Δ X) ≡ Some (item m d)
dependency_found Δ Σ X m d ok D p = listed_found Σ Δ (order Σ X) m d ((order_is Σ X (acyclic Σ ok.acyclic)).1 m ∙ is_dependency Σ X m (declared_below Σ m d p) D) p

pub own_dependency : (Σ : Metas) (m : ℕ) (us : Terms) → Depends Σ (none ▹ Meta m us) m
own_dependency Σ m us = direct (or_left (nat_eq m m) (occurs_in m us) (eq-eqb m m refl))

pub values_are_equal : ValuesAreEqual
values_are_equal Δ Σ m d us v ok p q n = by_step (delta (item m d) v (dependency_found Δ Σ (none ▹ Meta m us) m d ok (own_dependency Σ m us) p) q n)

-- what a judgement in a cut speaks of are dependencies
module _ (Δ : Env) (Σ : Metas) (X : Terms) (ok : IsLegalMetas Δ Σ) where
  found_dependency : (k : ℕ) → Found (cut Σ Δ X) k → (k < length Σ) × Depends Σ X k
  found_dependency k f = found_from (cut Σ Δ X) Σ Δ (Depends Σ X) ok.constants (cut_from Σ Δ X (acyclic Σ ok.acyclic)) k f

  pub judged_dependency : {Γ : Ctx} {M B : Term} → Derives (cut Σ Δ X) Γ M B → (k : ℕ) → occurs_in k (Γ ▹ M ▹ B) ≡ true → (k < length Σ) × Depends Σ X k
  judged_dependency {Γ} {M} {B} d k w = found_dependency k (all_known_found (cut Σ Δ X) k (Γ ▹ M ▹ B) ((known_context d, known d), known_valid B (valid d)) w)

pub judgements_are_of_dependencies : JudgementsAreOfDependencies
judgements_are_of_dependencies Δ Σ X Γ M B k ok d D = depends_wider (λ j w. (judged_dependency Δ Σ X ok d j w).1) D
