-- What makes a metavariable context legal: each item may be added to some environment of its dependencies.
use Rattle.std.proofs.Common.{◌≡◌, ℕ, ◌<◌, List, [], ◌∷◌, true, Some, sym, ◌∙◌, subst as transport}
use Rattle.ld_trees.specs.Term.{◌▹◌}
use Rattle.ld_rules.specs.Environment.{Env}
use Rattle.ld_rules.specs.Legality.{MayBeAdded, IsLegalEnvironment}
use Rattle.ld_rules.specs.Extension.{Extends}
use Rattle.ld_rules.proofs.Environments.{adding_from_below, newest}
use Rattle.meta_trees.specs.MetaContext.{Metas, Decl, item, decl}
use Rattle.meta_trees.specs.Dependencies.{Depends, parts, occurs_in}
use Rattle.meta_laws.specs.Cut.{order, IsOrdered, items, with_item, cut}
use Rattle.meta_laws.specs.Legality.{HasNoMetas, IsLegalMetas}
use Rattle.meta_laws.specs.Laws.{OrdersAreLegal, CutsAreLegal, EmptyIsLegal}
use Rattle.meta_trees.proofs.Dependencies.{parts_are, declared_below}
use Rattle.meta_laws.proofs.Lists.{is_false}
use Rattle.meta_laws.proofs.Order.{acyclic, order_is, NoCycle, dependency, is_dependency}
use Rattle.meta_laws.proofs.Items.{AreFrom, declared_at, from_extends, unlisted_new, cut_from}

pub record IsJustified (Σ : Metas) (Δ : Env) (m : ℕ) (d : Decl) : Type 0 where
  pub within : Env
  pub may : MayBeAdded within (item m d)
  pub from : AreFrom within Σ Δ (Depends Σ (parts d))

abbrev pub AreJustified : Metas → Env → Type 0
AreJustified Σ Δ = (m : ℕ) (d : Decl) → decl m Σ ≡ Some d → IsJustified Σ Δ m d

-- then each ordered list of items is a legal environment
pub ordered_legal : (Σ : Metas) (Δ : Env) → HasNoMetas Δ → IsLegalEnvironment Δ → AreJustified Σ Δ → (L : List ℕ) → IsOrdered Σ L → IsLegalEnvironment (items Σ L Δ)
ordered_legal Σ Δ plain ok js [] o = ok
ordered_legal Σ Δ plain ok js (k ∷ L) o =
    let d = declared_at Σ k o.2 in
    let j = js k d.0 d.1 in
    let ext : Extends j.within (items Σ L Δ) = from_extends j.within Σ Δ (Depends Σ (parts d.0)) L plain j.from (λ i D l. o.3 i (transport (λ X. Depends Σ X i) (sym (parts_are Σ k d.0 d.1)) D) l) in
    transport (λ x. IsLegalEnvironment (with_item x k (items Σ L Δ))) (sym d.1)
    (adding_from_below j.within (items Σ L Δ) (item k d.0) (ordered_legal Σ Δ plain ok js L o.0) ext j.may (unlisted_new Σ Δ L k plain o.1))

abbrev pub IsSmaller : Metas → Type 0
IsSmaller Σ = (m k : ℕ) (d : Decl) → decl m Σ ≡ Some d → occurs_in k (d.ctx ▹ d.ty) ≡ true → k < m

pub justified : {Δ : Env} {Σ : Metas} → IsLegalMetas Δ Σ → AreJustified Σ Δ
justified {Δ} {Σ} ok m d p = record { within = cut Σ Δ (parts d); may = (newest (ok.items m d p)).1; from = cut_from Σ Δ (parts d) (acyclic Σ ok.acyclic) }

pub orders_are_legal : OrdersAreLegal
orders_are_legal Δ Σ L ok o = ordered_legal Σ Δ ok.constants ok.environment (justified ok) L o

pub cuts_are_legal : CutsAreLegal
cuts_are_legal Δ Σ X ok = orders_are_legal Δ Σ (order Σ X) ok (order_is Σ X (acyclic Σ ok.acyclic)).0

with_own : (Σ : Metas) (m : ℕ) (d : Decl) → NoCycle Σ → decl m Σ ≡ Some d → IsOrdered Σ (m ∷ order Σ (parts d))
with_own Σ m d ac p =
    let o = order_is Σ (parts d) (acyclic Σ ac) in (
      o.0,
      is_false _ (λ h. ac m d p (dependency Σ (parts d) m (sym (o.1 m) ∙ h)).1),
      declared_below Σ m d p,
      λ j D l. o.1 j ∙ is_dependency Σ (parts d) j l (transport (λ X. Depends Σ X j) (parts_are Σ m d p) D),
    )

pub made_legal : (Σ : Metas) (Δ : Env) → HasNoMetas Δ → IsLegalEnvironment Δ → IsSmaller Σ → NoCycle Σ → AreJustified Σ Δ → IsLegalMetas Δ Σ
made_legal Σ Δ plain ok sm ac js = record {
  constants = plain;
  environment = ok;
  smaller = sm;
  acyclic = ac;
  items = λ m d p. transport (λ x. IsLegalEnvironment (with_item x m (cut Σ Δ (parts d)))) p (ordered_legal Σ Δ plain ok js (m ∷ order Σ (parts d)) (with_own Σ m d ac p));
}

pub empty_is_legal : EmptyIsLegal
empty_is_legal Δ plain ok = made_legal [] Δ plain ok (λ m k d p. absurd cc) (λ m d p. absurd cc) (λ m d p. absurd cc)
