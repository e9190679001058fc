-- A step keeps the type.
-- another type of the last entry that is equal
use Rattle.std.proofs.Common.{◌≡◌, suc, inl, inr, sym, ap, ◌∙◌, subst as transport, subst₂ as transport₂}
use Rattle.std.proofs.lemmas.Option.{same_Some}
use Rattle.ld_trees.specs.Term.{◌▹◌, Term, Sort, Srt, Var, Pi, Terms, Star, Square, none}
use Rattle.ld_trees.specs.Substitution.{weaken, subst_all, instantiate}
use Rattle.ld_trees.proofs.SubstitutionLaws.{subst_of_rename, subst_var}
use Rattle.ld_rules.specs.Environment.{Env, Ctx}
use Rattle.ld_rules.specs.Reduction.{Equal, symmetric, transitive, Step, beta, delta, in_function, in_argument, in_lam_type, by_step, in_domain, in_lam_body, in_codomain, in_arguments, Steps, in_last, in_earlier}
use Rattle.ld_rules.specs.Derivation.{Derives, weak, conv, var, argument, Fits, inst, appl, abst, form}
use Rattle.ld_rules.specs.Legality.{IsValid}
use Rattle.ld_rules.proofs.ScopedJudgements.{in_scope, EnvironmentScoped}
use Rattle.ld_rules.proofs.SubstitutionLemma.{legal, equal_weaken, Into, into_weak, substitution, extends_itself, domain, equal_subst}
use Rattle.ld_rules.proofs.Entries.{into_itself, substitute_arguments, substitute_last, last}
use Rattle.ld_rules.proofs.Validity.{valid, product, item_valid}
use Rattle.ld_rules.proofs.Environments.{item_body, legal_environment, item_legal}
use Rattle.ld_confluence.specs.Laws.{SubjectReduction}
use Rattle.ld_confluence.proofs.Parallel.{AllParallel, par_arguments, par_itself, par_more, par_none}
use Rattle.ld_confluence.proofs.Confluence.{par_equal, product_parts, step_par, steps_par}
use Rattle.ld_confluence.proofs.Generation.{IsConverted, is_sorted, is_equal, generated, converted}

other_entry : {Δ : Env} {Γ : Ctx} {A A' M B : Term} {s z : Sort} → Derives Δ Γ A (Srt s) → Derives Δ Γ A' (Srt z) → Equal Δ A A' → Derives Δ (Γ ▹ A) M B → Derives Δ (Γ ▹ A') M B
other_entry {Δ} {Γ} {A} {A'} {M} {B} {s} dA dA' e d =
    let ok = weak (legal dA') dA' in
    let v : Derives Δ (Γ ▹ A') (Var 0) (weaken A) = conv (var dA') (weak dA dA') (symmetric (equal_weaken (in_scope dA).env e)) in
    let i : Into Δ (Γ ▹ A') Var (Γ ▹ A) = (into_weak Γ Var dA' (into_itself Γ (legal dA')), transport (λ t. Derives Δ (Γ ▹ A') (Var 0) t) (subst_of_rename suc A) v) in
    transport₂ (λ x y. Derives Δ (Γ ▹ A') x y) (subst_var M) (subst_var B) (substitution d (extends_itself Δ) ok Var i)

-- the codomain of a function's type has a sort
codomain : {Δ : Env} {Γ : Ctx} {f A B : Term} → Derives Δ Γ f (Pi A B) → (z : Sort) × Derives Δ (Γ ▹ A) B (Srt z)
codomain {Δ} {Γ} {f} {A} {B} d = go (valid d)
  where
    go : IsValid Δ Γ (Pi A B) → (z : Sort) × Derives Δ (Γ ▹ A) B (Srt z)
    go (inl e) = absurd cc
    go (inr h) = let p = product h.1 in (p.1, p.3)

-- a type with other arguments instantiate in
module _ (Δ : Env) (ok : EnvironmentScoped Δ) where
  equal_put : {us vs : Terms} (t : Term) → AllParallel Δ us vs → Equal Δ (subst_all us t) (subst_all vs t)
  equal_put t p = par_equal (par_arguments Δ ok (par_itself Δ t) p)

  -- with a sort instantiate in, a valid type has a sort or is one
  valid_put : {Γ : Ctx} {us ps : Terms} {M t T : Term} → Derives Δ Γ Star Square → IsValid Δ ps t → Fits Δ Γ us ps → Derives Δ Γ M (subst_all us t) → (vs : Terms) → Equal Δ (subst_all us t) (subst_all vs t) → Fits Δ Γ vs ps → IsConverted Δ Γ (subst_all us t) T → IsConverted Δ Γ (subst_all vs t) T
  valid_put {Γ} {us} {ps} {M} {t} {T} l (inl e) f d vs q g c =
      transport (λ x. IsConverted Δ Γ x T) (ap (subst_all us) e ∙ ap (subst_all vs) (sym e)) c
  valid_put l (inr h) f d vs q g c =
      let s = is_sorted (substitute_arguments l h.1 f) c in
      inr (s.0, s.1, transitive (symmetric q) (is_equal c))

  mutual
    pub kept : {a b : Term} → Step Δ a b → (Γ : Ctx) (T : Term) → Derives Δ Γ a T → Derives Δ Γ b T
    kept (beta {A = A} {M = M} {N = N}) Γ T d =
        let m = generated d in
        let l = generated m.2 in
        let parts = product_parts Δ ok (is_equal l.4) in
        let dN : Derives Δ Γ N A = conv m.3 (domain l.3).1 (symmetric parts.0) in
        let r = substitute_last l.2 dN in
        let s = is_sorted (substitute_last (codomain m.2).1 m.3) m.4 in
        conv r s.1 (transitive (equal_subst ok (extends_itself Δ) (instantiate (none ▹ N)) parts.1) (is_equal m.4))
    kept (delta {us = us} d M p e n) Γ T k =
        let m = generated k in
        let same_item : m.0 ≡ d = same_Some _ _ (sym m.1 ∙ p) in
        let b : Derives Δ m.0.params M m.0.ty = item_body Δ _ m.0 (legal_environment k) m.1 M (ap (λ x. x.body) same_item ∙ e) in
        converted (substitute_arguments (legal k) b m.2) m.3
    kept (in_function e) Γ T d = let m = generated d in converted (appl (kept e Γ _ m.2) m.3) m.4
    kept (in_argument {a = a} {b = b} e) Γ T d =
        let m = generated d in
        let a' = kept e Γ _ m.3 in
        let s = is_sorted (substitute_last (codomain m.2).1 m.3) m.4 in
        conv (appl m.2 a') s.1 (transitive (symmetric (equal_put m.1 (par_more par_none (step_par e)))) (is_equal m.4))
    kept (in_lam_type {B = A'} {M = M} e) Γ T d =
        let m = generated d in
        let q = product m.3 in
        let dA' = kept e Γ _ q.2 in
        let back' = by_step (in_domain e) in
        let s = is_sorted m.3 m.4 in
        conv (abst (other_entry q.2 dA' (by_step e) m.2) (form dA' (other_entry q.2 dA' (by_step e) q.3))) s.1 (transitive (symmetric back') (is_equal m.4))
    kept (in_lam_body e) Γ T d = let m = generated d in converted (abst (kept e _ _ m.2) m.3) m.4
    kept (in_domain e) Γ T d = let m = generated d in let a = kept e Γ _ m.2 in converted (form a (other_entry m.2 a (by_step e) m.3)) m.4
    kept (in_codomain e) Γ T d = let m = generated d in converted (form m.2 (kept e _ _ m.3)) m.4
    kept (in_arguments {h = h} {us = us} {vs = vs} e) Γ T d =
        let m = generated d in
        let l = legal d in
        let f = all_kept e Γ m.0.params (item_legal Δ h m.0 (legal_environment l) m.1) m.2 in
        converted (inst m.0 l f m.1) (valid_put l (item_valid l h m.0 m.1) m.2 (inst m.0 l m.2 m.1) vs (equal_put m.0.ty (steps_par e)) f m.3)

    pub all_kept : {us vs : Terms} → Steps Δ us vs → (Γ : Ctx) (ps : Terms) → Derives Δ ps Star Square → Fits Δ Γ us ps → Fits Δ Γ vs ps
    all_kept (in_last e) Γ ps l (argument f a) = argument f (kept e Γ _ a)
    all_kept (in_earlier e) Γ ps l (argument {P = P} f a) =
        let p = last l in
        let g = all_kept e Γ _ (legal p.1) f in
        argument g (conv a (substitute_arguments (legal a) p.1 g) (equal_put P (steps_par e)))

pub subject_reduction : SubjectReduction
subject_reduction Δ Γ M N B d e = kept Δ (in_scope d).env e Γ B d
