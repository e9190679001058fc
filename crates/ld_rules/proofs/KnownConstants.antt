-- The constants of a judgement are items of its environment.
use Rattle.std.proofs.Common.{◌≡◌, ℕ, suc, ◌∷◌, inl, inr, sym, None, subst as transport}
use Rattle.ld_trees.specs.Term.{Term, Srt, Var, App, Lam, Pi, Con, Terms, none, ◌▹◌}
use Rattle.ld_trees.specs.Substitution.{lift_name, rename, renames}
use Rattle.ld_rules.specs.Environment.{Ctx, Env, Item, item_of}
use Rattle.ld_rules.specs.Derivation.{Derives, sort, var, weak, form, appl, abst, conv, def, def_prim, inst, Fits, no_argument, argument}
use Rattle.ld_rules.specs.Legality.{IsValid}
use Rattle.ld_rules.specs.Scoping.{ContextScoped, IsKnown, Known, AllKnown, IsScoped}
use Rattle.ld_rules.proofs.ScopedTerms.{renames_count}
use Rattle.ld_rules.proofs.ScopedJudgements.{in_scope, all_in_scope}
use Rattle.ld_rules.proofs.SubstitutionLemma.{found_below}
use Rattle.ld_rules.proofs.Validity.{valid}

module _ (Δ : Env) where
  mutual
    pub known_rename : (t : Term) (r : ℕ → ℕ) → Known Δ t → Known Δ (rename r t)
    known_rename (Srt s) r k = tt
    known_rename (Var i) r k = tt
    known_rename (App f a) r k = (known_rename f r k.0, known_rename a r k.1)
    known_rename (Lam A M) r k = (known_rename A r k.0, known_rename M (lift_name r) k.1)
    known_rename (Pi A B) r k = (known_rename A r k.0, known_rename B (lift_name r) k.1)
    known_rename (Con h us) r k = (transport (IsKnown Δ h) (sym (renames_count us r)) k.0, known_renames us r k.1)

    pub known_renames : (us : Terms) (r : ℕ → ℕ) → AllKnown Δ us → AllKnown Δ (renames r us)
    known_renames none r k = tt
    known_renames (us ▹ u) r k = (known_renames us r k.0, known_rename u r k.1)

-- one more item
module _ (d : Item) (Δ : Env) (fresh : item_of d.name Δ ≡ None) where
  mutual
    pub known_more : (t : Term) → Known Δ t → Known (d ∷ Δ) t
    known_more (Srt s) k = tt
    known_more (Var i) k = tt
    known_more (App f a) k = (known_more f k.0, known_more a k.1)
    known_more (Lam A M) k = (known_more A k.0, known_more M k.1)
    known_more (Pi A B) k = (known_more A k.0, known_more B k.1)
    known_more (Con h us) k = ((k.0.0, found_below d Δ fresh h k.0.0 k.0.1, k.0.2), all_known_more us k.1)

    pub all_known_more : (us : Terms) → AllKnown Δ us → AllKnown (d ∷ Δ) us
    all_known_more none k = tt
    all_known_more (us ▹ u) k = (all_known_more us k.0, known_more u k.1)

mutual
  pub known : {Δ : Env} {Γ : Ctx} {M B : Term} → Derives Δ Γ M B → Known Δ M
  known sort = tt
  known (var dA) = tt
  known (weak {Δ = Δ} {M = M} dM dC) = known_rename Δ M suc (known dM)
  known (form dA dB) = (known dA, known dB)
  known (appl dM dN) = (known dM, known dN)
  known (abst dM dP) = ((known dP).0, known dM)
  known (conv dM dB e) = known dM
  known (def {Δ = Δ} {K = K} d dK e dM fresh) = known_more d Δ fresh K (known dK)
  known (def_prim {Δ = Δ} {K = K} d dK e dN fresh) = known_more d Δ fresh K (known dK)
  known (inst d dS dU p) = ((d, p, (all_in_scope dU).alike), all_known dU)

  pub all_known : {Δ : Env} {Γ : Ctx} {us ps : Terms} → Fits Δ Γ us ps → AllKnown Δ us
  all_known no_argument = tt
  all_known (argument dU du) = (all_known dU, known du)

pub known_context : {Δ : Env} {Γ : Ctx} {M B : Term} → Derives Δ Γ M B → AllKnown Δ Γ
known_context sort = tt
known_context (var dA) = (known_context dA, known dA)
known_context (weak dM dC) = (known_context dM, known dC)
known_context (form dA dB) = known_context dA
known_context (appl dM dN) = known_context dM
known_context (abst dM dP) = known_context dP
known_context (conv dM dB e) = known_context dM
known_context (def {Δ = Δ} {Γ = Γ} d dK e dM fresh) = all_known_more d Δ fresh Γ (known_context dK)
known_context (def_prim {Δ = Δ} {Γ = Γ} d dK e dN fresh) = all_known_more d Δ fresh Γ (known_context dK)
known_context (inst d dS dU p) = known_context dS

pub known_valid : {Δ : Env} {Γ : Ctx} (B : Term) → IsValid Δ Γ B → Known Δ B
known_valid {Δ} B (inl e) = transport (Known Δ) (sym e) tt
known_valid B (inr h) = known h.1

pub judgements_are_scoped : (Δ : Env) (Γ : Ctx) (M B : Term) → Derives Δ Γ M B → ContextScoped Γ × AllKnown Δ Γ × IsScoped Δ Γ M × IsScoped Δ Γ B
judgements_are_scoped Δ Γ M B d =
    let s = in_scope d in
    (s.ctx, known_context d, (s.term, known d), (s.ty, known_valid B (valid d)))
