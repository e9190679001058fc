-- What an answer of unification or settling means, by the laws.
use Rattle.std.proofs.Common.{◌≡◌, ℕ, List, Some, Result, Ok, Err}
use Rattle.std.specs.Prelude.{IfOk, slice_get}
use Rattle.ld_trees.specs.Term.{Term, Meta, none, ◌▹◌}
use Rattle.ld_rules.specs.Environment.{Env}
use Rattle.ld_rules.specs.Scoping.{Known}
use Rattle.ld_terms.specs.declared.globals.Decl.{Decl}
use Rattle.meta_laws.specs.Legality.{IsLegalMetas}
use Rattle.goal_state.specs.State.{plain_metas, rules_metas}
use Rattle.unification.specs.Laws.{HasFootprint}
use Rattle.unification.specs.Refusals.{Plain}
use Rattle.unification.specs.Metavariables.{reach}
use Rattle.unification.specs.Unification.{unify, settle}
use Rattle.unification.proofs.Sound.{unifying_is_sound, settling_is_sound}
use Rattle.unification.proofs.Footprint.{unifying_has_footprint, settling_has_footprint}
use Rattle.pattern_unify.specs.declared.fault.UnifyFault.{UnifyFault}
use Rattle.pattern_unify.specs.Answers.{Answers, AreUnified, AreSettled}

module _ {H : Type 0} (holds : H → Type 0) (means : H → Term) (Δ : Env) (Σ : Plain) (n left : ℕ) (legal : IsLegalMetas Δ (rules_metas Σ)) where
  module _ (d : ℕ) (A B : Term) (a : Known (reach Δ Σ) A) (b : Known (reach Δ Σ) B) where
    pub unified : (r : Result (List (Decl H)) (UnifyFault H)) → Answers holds means (plain_metas means) (unify Δ Σ d A B n) left r → IfOk r (λ m. AreUnified Δ Σ (plain_metas means m) A B)
    unified (Ok m) h = let s = unifying_is_sound Δ Σ (plain_metas means m) d n left A B legal a b h in record { legal = s.0; extend = s.1; equal = s.2 }
    unified (Err e) h = tt

    pub footprint : (r : Result (List (Decl H)) (UnifyFault H)) → Answers holds means (plain_metas means) (unify Δ Σ d A B n) left r → IfOk r (λ m. HasFootprint Σ (plain_metas means m) (none ▹ A ▹ B))
    footprint (Ok m) h = unifying_has_footprint Δ Σ (plain_metas means m) d n left A B legal a b h
    footprint (Err e) h = tt

  pub settled : (m : ℕ) (d : Decl Term) (v : Term) → Known (reach Δ Σ) v → slice_get Σ m ≡ Some d → (r : Result (List (Decl H)) (UnifyFault H)) → Answers holds means (plain_metas means) (settle Δ Σ m v n) left r
      → IfOk r (λ x. AreSettled Δ Σ (plain_metas means x) m d v)
  settled m d v k e (Ok x) h = let s = settling_is_sound Δ Σ (plain_metas means x) m n left d v legal k e h in record { legal = s.0; extend = s.1; given = s.2 }
  settled m d v k e (Err f) h = tt

  pub settled_footprint : (m : ℕ) (v : Term) (r : Result (List (Decl H)) (UnifyFault H)) → Answers holds means (plain_metas means) (settle Δ Σ m v n) left r → IfOk r (λ x. HasFootprint Σ (plain_metas means x) (none ▹ Meta m none ▹ v))
  settled_footprint m v (Ok x) h = settling_has_footprint Δ Σ (plain_metas means x) m n left v legal h
  settled_footprint m v (Err f) h = tt
