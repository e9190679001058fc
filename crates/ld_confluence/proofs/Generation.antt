-- Generation: what a derivation of each form of term has.
use Rattle.std.proofs.Common.{◌≡◌, suc, ◌∷◌, ◌⊎◌, inl, inr, Some, None, refl, sym, ap, ◌∙◌, subst as transport, subst₂ as transport₂}
use Rattle.ld_trees.specs.Term.{◌▹◌, Con, Term, Sort, Srt, App, Pi, none, Lam, Terms, Star, Square, Var}
use Rattle.ld_trees.specs.Substitution.{subst_all, weaken, rename, renames, lift_name}
use Rattle.ld_trees.proofs.SubstitutionLaws.{subst_var}
use Rattle.ld_rules.specs.Environment.{Env, Ctx, Item, item_of}
use Rattle.ld_rules.specs.Reduction.{Equal, reflexive, transitive}
use Rattle.ld_rules.specs.Derivation.{Derives, conv, sort, Fits, weak, argument, var, no_argument, form, appl, abst, def, def_prim, inst}
use Rattle.ld_trees.specs.Scoping.{Scoped}
use Rattle.ld_rules.proofs.ScopedTerms.{renames_are, rename_of_arguments}
use Rattle.ld_rules.proofs.ScopedJudgements.{EnvironmentScoped, in_scope, all_in_scope}
use Rattle.ld_rules.proofs.SubstitutionLemma.{equal_weaken, substitution_all, extends_itself, legal, into_weak, domain, equal_subst, found_below, refines_itself}
use Rattle.ld_rules.proofs.Entries.{into_itself, weak_under}
use Rattle.ld_rules.proofs.Environments.{item_legal, legal_environment}
use Rattle.ld_confluence.proofs.Parallel.{rename_last}

-- the same type, or one that is converted to
abbrev pub IsConverted : Env → Ctx → Term → Term → Type 0
IsConverted Δ Γ X T = (X ≡ T) ⊎ ((s : Sort) × Derives Δ Γ T (Srt s) × Equal Δ X T)

pub converted : {Δ : Env} {Γ : Ctx} {M X T : Term} → Derives Δ Γ M X → IsConverted Δ Γ X T → Derives Δ Γ M T
converted {Δ} {Γ} {M} d (inl e) = transport (Derives Δ Γ M) e d
converted d (inr h) = conv d h.1 h.2

pub is_equal : {Δ : Env} {Γ : Ctx} {X T : Term} → IsConverted Δ Γ X T → Equal Δ X T
is_equal {Δ} {Γ} {X} (inl e) = transport (Equal Δ X) e reflexive
is_equal (inr h) = h.2

pub is_sorted : {Δ : Env} {Γ : Ctx} {X T : Term} {z : Sort} → Derives Δ Γ X (Srt z) → IsConverted Δ Γ X T → (s : Sort) × Derives Δ Γ T (Srt s)
is_sorted {Δ} {Γ} {X} {T} {z} d (inl e) = (z, transport (λ t. Derives Δ Γ t (Srt z)) e d)
is_sorted d (inr h) = (h.0, h.1)

-- one more conversion
more : {Δ : Env} {Γ : Ctx} {X B B' : Term} {s : Sort} → Derives Δ Γ B' (Srt s) → Equal Δ B B' → IsConverted Δ Γ X B → IsConverted Δ Γ X B'
more {s = s} d e c = inr (s, d, transitive (is_equal c) e)

-- generation: what a derivation of each term has
abbrev pub Generated : Env → Ctx → Term → Term → Type 0
Generated Δ Γ (App f a) T = (A : Term) × (B : Term) × Derives Δ Γ f (Pi A B) × Derives Δ Γ a A × IsConverted Δ Γ (subst_all (none ▹ a) B) T
Generated Δ Γ (Lam A M) T = (B : Term) × (s : Sort) × Derives Δ (Γ ▹ A) M B × Derives Δ Γ (Pi A B) (Srt s) × IsConverted Δ Γ (Pi A B) T
Generated Δ Γ (Pi A B) T = (s : Sort) × (z : Sort) × Derives Δ Γ A (Srt s) × Derives Δ (Γ ▹ A) B (Srt z) × IsConverted Δ Γ (Srt z) T
Generated Δ Γ (Con h us) T = (d : Item) × (item_of h Δ ≡ Some d) × Fits Δ Γ us d.params × IsConverted Δ Γ (subst_all us d.ty) T
Generated Δ Γ _ T = Unit {0}

converted_weak : {Δ : Env} {Γ : Ctx} {X Y T C : Term} {s : Sort} → EnvironmentScoped Δ → Derives Δ Γ C (Srt s) → weaken X ≡ Y → IsConverted Δ Γ X T → IsConverted Δ (Γ ▹ C) Y (weaken T)
converted_weak ok dC p (inl e) = inl (sym p ∙ ap weaken e)
converted_weak {Δ} {T = T} ok dC p (inr h) = inr (h.0, weak h.1 dC, transport (λ y. Equal Δ y (weaken T)) p (equal_weaken ok h.2))

fits_weak : {Δ : Env} {Γ : Ctx} {us ps : Terms} {C : Term} {s : Sort} → Derives Δ Γ C (Srt s) → Derives Δ ps Star Square → Fits Δ Γ us ps → Fits Δ (Γ ▹ C) (renames suc us) ps
fits_weak {Δ} {Γ} {us} {ps} {C} dC lp f =
    transport (λ x. Fits Δ (Γ ▹ C) x ps) (sym (renames_are suc us)) (substitution_all f (extends_itself Δ) (weak (legal dC) dC) (λ i. Var (suc i)) (into_weak Γ Var dC (into_itself Γ (legal dC))) (in_scope lp).ctx)

generated_weak : {Δ : Env} {Γ : Ctx} {C : Term} {s : Sort} (T M : Term) → Derives Δ Γ C (Srt s) → Generated Δ Γ M T → Generated Δ (Γ ▹ C) (weaken M) (weaken T)
generated_weak T (App f a) dC h =
    (weaken h.0, rename (lift_name suc) h.1, weak h.2 dC, weak h.3 dC, converted_weak (in_scope dC).env dC (rename_last suc a h.1) h.4)
generated_weak T (Lam A M) dC h =
    (rename (lift_name suc) h.0, h.1, weak_under h.2 (domain h.3).1 dC, weak h.3 dC, converted_weak (in_scope dC).env dC refl h.4)
generated_weak T (Pi A B) dC h = (h.0, h.1, weak h.2 dC, weak_under h.3 h.2 dC, converted_weak (in_scope dC).env dC refl h.4)
generated_weak {Δ = Δ} T (Con c us) dC h =
    let ok = (in_scope dC).env in
    (h.0, h.1, fits_weak dC (item_legal Δ c h.0 (legal_environment dC) h.1) h.2, converted_weak ok dC (rename_of_arguments suc us h.0.ty (transport (λ n. Scoped n h.0.ty) (sym (all_in_scope h.2).alike) (ok c h.0 h.1).ty)) h.3)
generated_weak T (Srt z) dC h = tt
generated_weak T (Var i) dC h = tt

generated_conv : {Δ : Env} {Γ : Ctx} {B B' : Term} {s : Sort} (M : Term) → Derives Δ Γ B' (Srt s) → Equal Δ B B' → Generated Δ Γ M B → Generated Δ Γ M B'
generated_conv (App f a) d e h = (h.0, h.1, h.2, h.3, more d e h.4)
generated_conv (Lam f a) d e h = (h.0, h.1, h.2, h.3, more d e h.4)
generated_conv (Pi f a) d e h = (h.0, h.1, h.2, h.3, more d e h.4)
generated_conv (Con f a) d e h = (h.0, h.1, h.2, more d e h.3)
generated_conv (Srt z) d e h = tt
generated_conv (Var i) d e h = tt

-- how derivations go on under one more item
record Grows (d : Item) (Δ : Env) : Type 0 where
  derives : (G : Ctx) (A B : Term) → Derives Δ G A B → Derives (d ∷ Δ) G A B
  fresh : item_of d.name Δ ≡ None
  ok : EnvironmentScoped Δ

module _ (d : Item) (Δ : Env) (g : Grows d Δ) where
  equal_grows : {a b : Term} → Equal Δ a b → Equal (d ∷ Δ) a b
  equal_grows {a} {b} e = transport₂ (Equal (d ∷ Δ)) (subst_var a) (subst_var b) (equal_subst g.ok (λ h c p. (c, found_below d Δ g.fresh h c p, refines_itself c)) Var e)

  converted_grows : {Γ : Ctx} {X T : Term} → IsConverted Δ Γ X T → IsConverted (d ∷ Δ) Γ X T
  converted_grows (inl e) = inl e
  converted_grows (inr h) = inr (h.0, g.derives _ _ _ h.1, equal_grows h.2)

  fits_grows : {Γ : Ctx} {us ps : Terms} → Fits Δ Γ us ps → Fits (d ∷ Δ) Γ us ps
  fits_grows no_argument = no_argument
  fits_grows (argument f a) = argument (fits_grows f) (g.derives _ _ _ a)

  generated_grows : (Γ : Ctx) (T M : Term) → Generated Δ Γ M T → Generated (d ∷ Δ) Γ M T
  generated_grows Γ T (App f a) h = (h.0, h.1, g.derives _ _ _ h.2, g.derives _ _ _ h.3, converted_grows h.4)
  generated_grows Γ T (Lam f a) h = (h.0, h.1, g.derives _ _ _ h.2, g.derives _ _ _ h.3, converted_grows h.4)
  generated_grows Γ T (Pi f a) h = (h.0, h.1, g.derives _ _ _ h.2, g.derives _ _ _ h.3, converted_grows h.4)
  generated_grows Γ T (Con c us) h = (h.0, found_below d Δ g.fresh c h.0 h.1, fits_grows h.2, converted_grows h.3)
  generated_grows Γ T (Srt z) h = tt
  generated_grows Γ T (Var i) h = tt

pub generated : {Δ : Env} {Γ : Ctx} {M T : Term} → Derives Δ Γ M T → Generated Δ Γ M T
generated sort = tt
generated (var dA) = tt
generated (weak {M = M} dM dC) = generated_weak _ M dC (generated dM)
generated (form {s = s} {z = z} dA dB) = (s, z, dA, dB, inl refl)
generated (appl {A = A} {B = B} dM dN) = (A, B, dM, dN, inl refl)
generated (abst {B = B} {s = s} dM dP) = (B, s, dM, dP, inl refl)
generated (conv {M = M} dM dB e) = generated_conv M dB e (generated dM)
generated (def {Δ = Δ} {K = K} d dK e dM fresh) = generated_grows d Δ (record { derives = λ _ _ _ x. def d x e dM fresh; fresh = fresh; ok = (in_scope dK).env }) _ _ K (generated dK)
generated (def_prim {Δ = Δ} {K = K} d dK e dN fresh) = generated_grows d Δ (record { derives = λ _ _ _ x. def_prim d x e dN fresh; fresh = fresh; ok = (in_scope dK).env }) _ _ K (generated dK)
generated (inst d dS dU p) = (d, p, dU, inl refl)
