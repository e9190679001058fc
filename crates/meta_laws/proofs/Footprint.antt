-- Where the dependencies of a term stay as they were, so does the term unfolded.
use Rattle.std.proofs.Common.{◌≡◌, ℕ, zero, suc, ◌+◌, ◌-◌, ◌≤◌, true, refl, sym, ap, ◌∙◌, length, arith}
use Rattle.ld_trees.specs.Term.{◌▹◌, Term, Terms, Numbered, none}
use Rattle.ld_rules.specs.Environment.{Env}
use Rattle.ld_confluence.proofs.SubjectReduction.{kept}
use Rattle.meta_trees.specs.MetaContext.{Metas, decl}
use Rattle.meta_trees.specs.Dependencies.{Depends, direct, through, occurs}
use Rattle.meta_laws.specs.Legality.{IsLegalMetas}
use Rattle.meta_laws.specs.Unfolding.{values, value_in, unfold_metas}
use Rattle.meta_laws.specs.Laws.{DependenciesStay, FootprintStays}
use Rattle.meta_laws.proofs.Agreement.{expand_agree}
use Rattle.meta_laws.proofs.Rounds.{value_agrees, same_no_value, value_in_parts, one_round_more}

module _ (Σ Σ' : Metas) (X : Terms) (kept : (k : ℕ) → Depends Σ X k → decl k Σ ≡ decl k Σ') where
  there : {k : ℕ} → Depends Σ X k → Depends Σ' X k
  there (direct w) = direct w
  there (through {m = m} d D p w) = through d (there D) (sym (kept m D) ∙ p) w

  here : {k : ℕ} → Depends Σ' X k → Depends Σ X k
  here (direct w) = direct w
  here (through {m = m} d D p w) = let E = here D in through d E (kept m E ∙ p) w

pub dependencies_stay : DependenciesStay
dependencies_stay Σ Σ' X k kept = (λ D. there Σ Σ' X kept D, λ D. here Σ Σ' X kept D)

module _ (Δ : Env) (Σ Σ' : Metas) (X : Terms) (kept : (k : ℕ) → Depends Σ X k → decl k Σ ≡ decl k Σ') (ok : IsLegalMetas Δ Σ) where
  values_kept : (r k n : ℕ) → Depends Σ X k → values Σ r (Numbered k) n ≡ values Σ' r (Numbered k) n
  values_kept zero k n D = refl
  values_kept (suc r) k n D =
      value_agrees (λ h m. values Σ r h m) (λ h m. values Σ' r h m) n (decl k Σ) (λ d v p q.
      expand_agree (λ h m. values Σ r h m) (λ h m. values Σ' r h m) (same_no_value Σ Σ' r r) v (λ i m w. values_kept r i m (through d D p (value_in_parts i d v q w))))
      ∙ ap (λ o. value_in (λ h m. values Σ' r h m) n o) (kept k D)

  more_rounds : (j r k n : ℕ) → Depends Σ X k → length Σ ≤ r → values Σ r (Numbered k) n ≡ values Σ (j + r) (Numbered k) n
  more_rounds zero r k n D l = ap (λ q. values Σ q (Numbered k) n) (omega arith)
  more_rounds (suc j) r k n D l =
      let q : suc (j + r) ≡ suc j + r = omega arith in
      more_rounds j r k n D l ∙ one_round_more Δ Σ ok X (j + r) k n D (omega arith) ∙ ap (λ i. values Σ i (Numbered k) n) q

  pub term_stays : (t : Term) → ((k : ℕ) → occurs k t ≡ true → Depends Σ X k) → length Σ ≤ length Σ' → unfold_metas Σ' t ≡ unfold_metas Σ t
  term_stays t i l =
      let e : length Σ' ≡ (length Σ' - length Σ) + length Σ = omega arith in
      expand_agree (λ h m. values Σ' (length Σ') h m) (λ h m. values Σ (length Σ) h m) (same_no_value Σ' Σ (length Σ') (length Σ)) t (λ k n w.
      sym (values_kept (length Σ') k n (i k w)) ∙ ap (λ q. values Σ q (Numbered k) n) e ∙ sym (more_rounds (length Σ' - length Σ) (length Σ) k n (i k w) (omega arith)))

pub footprint_stays : FootprintStays
footprint_stays Δ Σ Σ' t ok l kept = term_stays Δ Σ Σ' (none ▹ t) kept ok t (λ k w. direct w) l
