-- Declaring, extending and settling by what the engines infer.
use Rattle.std.proofs.Common.{◌≡◌, ℕ, inl, inr, true, Some, None, subst as transport}
use Rattle.ld_trees.specs.Term.{◌▹◌, Term, Sort, Srt, Star, Square, Terms, none}
use Rattle.ld_rules.specs.Environment.{Env, Ctx}
use Rattle.ld_rules.specs.Reduction.{Equal}
use Rattle.ld_rules.specs.Derivation.{Derives, weak, conv}
use Rattle.ld_rules.specs.Legality.{IsLegal}
use Rattle.ld_rules.proofs.SubstitutionLemma.{legal}
use Rattle.ld_rules.proofs.Environments.{newest}
use Rattle.conversion.specs.Runs.{Gave}
use Rattle.kernel_check.specs.Inference.{infer_sort, infer}
use Rattle.meta_trees.specs.MetaContext.{Metas, decl, Decl, Keeps}
use Rattle.meta_trees.specs.Dependencies.{direct, occurs, occurs_in, Depends, and_value}
use Rattle.meta_laws.specs.Cut.{cut}
use Rattle.meta_trees.specs.Whole.{whole}
use Rattle.meta_laws.specs.Legality.{IsLegalMetas}
use Rattle.meta_laws.specs.Laws.{DeclaringIsSound, ExtendingIsSound, SettlingKeepsLegality}
use Rattle.meta_trees.proofs.Dependencies.{depends_wider, or_left, or_split, or_right}
use Rattle.meta_laws.proofs.Growing.{cuts_grow, keeps_itself, judged_dependency, equality_grows}
use Rattle.meta_laws.proofs.Assigning.{assigning_keeps_legality}
use Rattle.meta_laws.proofs.Declaring.{declaring_keeps_legality}
use Rattle.meta_laws.proofs.Strengthening.{contexts_are_legal}
use Rattle.meta_laws.proofs.Engines.{sort_is_derived, inference_is_derived}

-- the sort that is inferred in a context that is legal in its own cut
sort_in_own : (Δ : Env) (Σ : Metas) (Γ : Ctx) (A : Term) (s : Sort) (n left : ℕ) → IsLegalMetas Δ Σ → IsLegal (cut Σ Δ Γ) Γ → infer_sort (whole Σ Δ) Γ A n ≡ Gave s left → Derives (cut Σ Δ (Γ ▹ A)) Γ A (Srt s)
sort_in_own Δ Σ Γ A s n left ok l e =
    sort_is_derived Δ Σ Γ A s n left ok (cuts_grow Δ Σ Σ Γ (Γ ▹ A) Γ Star Square ok ok (keeps_itself Σ) (λ k D. depends_wider (λ j w. direct (or_left (occurs_in j Γ) (occurs j A) w)) D) l) e

pub declaring_is_sound : DeclaringIsSound
declaring_is_sound Δ Σ Γ T s n left ok l e = declaring_keeps_legality Δ Σ Γ T s ok (sort_in_own Δ Σ Γ T s n left ok l e)

pub extending_is_sound : ExtendingIsSound
extending_is_sound Δ Σ Γ A s n left ok l e = let d = sort_in_own Δ Σ Γ A s n left ok l e in weak (legal d) d

module _ (Δ : Env) (Σ Σ' : Metas) (m : ℕ) (d : Decl) (v T : Term) (ok : IsLegalMetas Δ Σ) (ok' : IsLegalMetas Δ Σ') (keeps : Keeps Σ Σ') (p : decl m Σ ≡ Some d) (q : decl m Σ' ≡ Some d) (unassigned : d.value ≡ None) where
  abbrev X : Terms
  X = d.ctx ▹ d.ty ▹ v

  abbrev Y : Terms
  Y = d.ctx ▹ d.ty

  in_type : (k : ℕ) → occurs_in k Y ≡ true → occurs_in k X ≡ true
  in_type k w = or_left (occurs_in k Y) (occurs k v) w

  in_value : (k : ℕ) → occurs_in k (d.ctx ▹ v) ≡ true → occurs_in k X ≡ true
  in_value k w = elim (or_split (occurs_in k d.ctx) (occurs k v) w) [ inl a ↦ in_type k (or_left (occurs_in k d.ctx) (occurs k d.ty) a) | inr a ↦ or_right (occurs_in k Y) (occurs k v) a ]

  wider : (R : Metas) (Z : Terms) → ((k : ℕ) → occurs_in k Z ≡ true → occurs_in k X ≡ true) → (k : ℕ) → Depends R Z k → Depends R X k
  wider R Z f k D = depends_wider (λ j w. direct (f j w)) D

  -- m's type has its sort, and the value its inferred type, in the greater cut
  own_type : (s : Sort) × Derives (cut Σ Δ Y) d.ctx d.ty (Srt s)
  own_type =
      let t = (newest (ok.items m d p)).1.primitive unassigned in
      (t.0, transport (λ o. Derives (cut Σ Δ (and_value Y o)) d.ctx d.ty (Srt t.0)) unassigned t.1)

  type_there : (s : Sort) × Derives (cut Σ' Δ X) d.ctx d.ty (Srt s)
  type_there = let t = own_type in (t.0, cuts_grow Δ Σ Σ' Y X d.ctx d.ty (Srt t.0) ok ok' keeps (wider Σ' Y in_type) t.1)

  value_there : (n left : ℕ) → infer (whole Σ Δ) d.ctx v n ≡ Gave T left → Derives (cut Σ' Δ X) d.ctx v T
  value_there n left e =
      let l = contexts_are_legal Δ Σ m d ok p in
      let here = cuts_grow Δ Σ Σ d.ctx (d.ctx ▹ v) d.ctx Star Square ok ok (keeps_itself Σ) (λ k D. depends_wider (λ j w. direct (or_left (occurs_in j d.ctx) (occurs j v) w)) D) l in
      cuts_grow Δ Σ Σ' (d.ctx ▹ v) X d.ctx v T ok ok' keeps (wider Σ' (d.ctx ▹ v) in_value) (inference_is_derived Δ Σ d.ctx v T n left ok here e)

  typed : (n left : ℕ) → infer (whole Σ Δ) d.ctx v n ≡ Gave T left → Equal (cut Σ' Δ (none ▹ T ▹ d.ty)) T d.ty → Derives (cut Σ' Δ X) d.ctx v d.ty
  typed n left e equal =
      let there = value_there n left e in
      let either : (k : ℕ) → occurs_in k (none ▹ T ▹ d.ty) ≡ true → Depends Σ' X k = λ k w. elim (or_split (occurs k T) (occurs k d.ty) w) [
        | inl a ↦ (judged_dependency Δ Σ' X ok' there k (or_right (occurs_in k (d.ctx ▹ v)) _ a)).1
        | inr a ↦ direct (in_type k (or_right (occurs_in k d.ctx) _ a))
      ] in
      conv there type_there.1 (equality_grows Δ Σ' Σ' (none ▹ T ▹ d.ty) X T d.ty ok' ok' (keeps_itself Σ') (λ k D. depends_wider either D) equal)

pub settling_keeps_legality : SettlingKeepsLegality
settling_keeps_legality Δ Σ Σ' m d v T n left ok ok' keeps p q unassigned e equal apart =
    assigning_keeps_legality Δ Σ' m d v ok' q unassigned (typed Δ Σ Σ' m d v T ok ok' keeps p q unassigned n left e equal) apart
