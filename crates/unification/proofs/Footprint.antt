-- Unifying and settling change only what they may.
use Rattle.std.proofs.Common.{◌≡◌, ℕ, ◌<◌, ◌⊎◌, inl, inr, true, false, ◌||◌, Option, Some, None, option_map, length, nat_eq, refl, sym, ap, ◌∙◌, arith, subst as transport}
use Rattle.std.specs.Prelude.{slice_get}
use Rattle.std.proofs.lemmas.Bool.{eqb-true}
use Rattle.std.proofs.lemmas.Option.{same_Some}
use Rattle.ld_trees.specs.Term.{Term, Terms, Meta, none, ◌▹◌}
use Rattle.ld_rules.specs.Environment.{Env}
use Rattle.ld_terms.specs.declared.globals.Decl.{Decl}
use Rattle.meta_trees.specs.MetaContext.{decl}
use Rattle.meta_trees.specs.Dependencies.{Depends, direct, through, occurs, occurs_in, and_value, parts}
use Rattle.meta_trees.proofs.Dependencies.{or_split, or_left, or_right}
use Rattle.meta_laws.specs.Legality.{IsLegalMetas}
use Rattle.goal_state.specs.State.{rules_metas}
use Rattle.goal_state.specs.Following.{Extend}
use Rattle.unification.specs.Steps.{Gave}
use Rattle.unification.specs.Refusals.{Plain}
use Rattle.unification.specs.Metavariables.{settled_by}
use Rattle.unification.specs.Unification.{unify, settle}
use Rattle.unification.specs.Laws.{declared_terms, Stays, HasFootprint, UnifyingHasFootprint, SettlingHasFootprint}
use Rattle.unification.proofs.Declarations.{plain, declares, same_decl}
use Rattle.unification.proofs.Moved.{Moved}
use Rattle.unification.proofs.Sound.{unified, settled}

stays_apart : (S Z : Plain) (X : Terms) → Moved S X Z → (k : ℕ) → k < length S → (Depends (rules_metas S) X k → ⊥) → Stays S Z k
stays_apart S Z X m k l apart = elim (m.changed k) [ inl q ↦ q | inr n ↦ elim n [ inl b ↦ absurd (omega arith) | inr D ↦ absurd (apart D) ] ]

value_stays : (S Z : Plain) → Extend S Z → (k : ℕ) (d : Decl Term) (v : Term) → slice_get S k ≡ Some d → d.value ≡ Some v → Stays S Z k
value_stays S Z x k d v e w =
    let c = x k d e in
    c.1 ∙ ap Some (same_decl c.0 d c.2.ctx c.2.ty (c.2.value v w ∙ sym w)) ∙ sym e

pub footprint : (S Z : Plain) (X : Terms) → Extend S Z → Moved S X Z → HasFootprint S Z X
footprint S Z X x m = record { others = stays_apart S Z X m; values = value_stays S Z x; new = m.new; spoken = m.spoken }

pub unifying_has_footprint : UnifyingHasFootprint
unifying_has_footprint Δ S Z d n left a b ok h k e = let j = unified Δ S Z d n left a b ok h k e in footprint S Z (none ▹ a ▹ b) j.extend j.moved

pub settling_has_footprint : SettlingHasFootprint
settling_has_footprint Δ S Z m n left v ok e = go (slice_get S m) refl
  where
    go : (o : Option (Decl Term)) → slice_get S m ≡ o → HasFootprint S Z (none ▹ Meta m none ▹ v)
    go None q = absurd (let r = transport (λ o. settled_by Δ (unify Δ) S m v o n ≡ Gave Z left) q e in cc)
    go (Some d) q = let w = settled Δ S Z m n left d v ok q e in footprint S Z (none ▹ Meta m none ▹ v) w.extend w.moved

-- ---- the same by the declaration of the metavariable

-- what depends on the metavariable or the value is the metavariable, or what the value and its declaration depend on
module _ (S : Plain) (m : ℕ) (d : Decl Term) (v : Term) (there : slice_get S m ≡ Some d) (open_yet : d.value ≡ None) where
  of_both : {k : ℕ} → Depends (rules_metas S) (none ▹ Meta m none ▹ v) k → (k ≡ m) ⊎ Depends (rules_metas S) (declared_terms d ▹ v) k
  of_both {k} (direct w) = elim (or_split (nat_eq m k || false) (occurs k v) w) [
    | inl a ↦ elim (or_split (nat_eq m k) false a) [ inl b ↦ inl (sym (eqb-true m k b)) | inr b ↦ absurd cc ]
    | inr a ↦ inr (direct (or_right (occurs_in k (declared_terms d)) _ a))
  ]
  of_both {k} (through {m = i} e D p w) = go (of_both D)
    where
      own : i ≡ m → occurs_in k (declared_terms d) ≡ true
      own q =
          let here = transport (λ j. decl j (rules_metas S) ≡ Some e) q p in
          let same = same_Some e (plain d) (sym here ∙ declares S m d there) in
          transport (λ o. occurs_in k (and_value (declared_terms d) (option_map (λ (t : Term). t) o)) ≡ true) open_yet (transport (λ c. occurs_in k (parts c) ≡ true) same w)

      go : (i ≡ m) ⊎ Depends (rules_metas S) (declared_terms d ▹ v) i → (k ≡ m) ⊎ Depends (rules_metas S) (declared_terms d ▹ v) k
      go (inl q) = inr (direct (or_left (occurs_in k (declared_terms d)) _ (own q)))
      go (inr E) = inr (through e E p w)

-- beside the metavariable, what neither its declaration nor the value depends on stays
pub settling_stays : (Δ : Env) (metas after : Plain) (m n left k : ℕ) (d : Decl Term) (v : Term) → IsLegalMetas Δ (rules_metas metas) → slice_get metas m ≡ Some d → settle Δ metas m v n ≡ Gave after left
    → k < length metas → (k ≡ m → ⊥) → (Depends (rules_metas metas) (declared_terms d ▹ v) k → ⊥) → Stays metas after k
settling_stays Δ S Z m n left k d v ok there e l other apart =
    let w = settled Δ S Z m n left d v ok there e in
    (settling_has_footprint Δ S Z m n left v ok e).others k l (λ D. elim (of_both S m d v there w.before D) [ inl q ↦ other q | inr E ↦ apart E ])
