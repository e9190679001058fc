-- Generation for products and validity of types.
use Rattle.std.proofs.Common.{◌≡◌, ◌∷◌, inl, inr, refl, ap, Some, None, subst as transport, subst₂ as transport₂, Bool, true, false}
use Rattle.std.proofs.lemmas.Option.{same_Some}
use Rattle.ld_trees.specs.Term.{Sort, star, square, Head, Term, Srt, Square, Var, Pi, ◌▹◌, same_head}
use Rattle.ld_trees.specs.Substitution.{weaken, subst_all}
use Rattle.ld_trees.proofs.SubstitutionLaws.{subst_var}
use Rattle.ld_rules.specs.Environment.{Ctx, Env, Item, item_of, found_at}
use Rattle.ld_rules.specs.Reduction.{Equal, reflexive, transitive}
use Rattle.ld_rules.specs.Derivation.{Derives, sort, var, weak, form, appl, abst, conv, def, def_prim, inst}
use Rattle.ld_rules.specs.Legality.{IsValid}
use Rattle.ld_rules.proofs.ScopedJudgements.{in_scope, EnvironmentScoped}
use Rattle.ld_rules.proofs.SubstitutionLemma.{legal, refines_itself, found_below, equal_weaken, equal_subst}
use Rattle.ld_rules.proofs.Entries.{weak_under, substitute_last, substitute_arguments}

-- equal terms are equal where an item is added
equal_more : (d : Item) (Δ : Env) {a b : Term} → EnvironmentScoped Δ → item_of d.name Δ ≡ None → Equal Δ a b → Equal (d ∷ Δ) a b
equal_more d Δ {a} {b} ok fresh e =
    transport₂ (Equal (d ∷ Δ)) (subst_var a) (subst_var b) (equal_subst ok (λ h c p. (c, found_below d Δ fresh h c p, refines_itself c)) Var e)

-- what a derivation for a product has
abbrev pub Product : Env → Ctx → Term → Term → Type 0
Product Δ Γ (Pi A B) T = (s : Sort) × (z : Sort) × Derives Δ Γ A (Srt s) × Derives Δ (Γ ▹ A) B (Srt z) × Equal Δ (Srt z) T
Product Δ Γ _ T = Unit {0}

product_weak : {Δ : Env} {Γ : Ctx} {C : Term} {s : Sort} (M T : Term) → Derives Δ Γ C (Srt s) → Product Δ Γ M T → Product Δ (Γ ▹ C) (weaken M) (weaken T)
product_weak (Pi A B) T dC h = (h.0, h.1, weak h.2 dC, weak_under h.3 h.2 dC, equal_weaken (in_scope dC).env h.4)
product_weak _ T dC h = tt

product_more : {Δ Δ' : Env} (Γ : Ctx) (M T : Term) → ((G : Ctx) (A B : Term) → Derives Δ G A B → Derives Δ' G A B) → ((a b : Term) → Equal Δ a b → Equal Δ' a b) → Product Δ Γ M T → Product Δ' Γ M T
product_more Γ (Pi A B) T f g h = (h.0, h.1, f _ _ _ h.2, f _ _ _ h.3, g _ _ h.4)
product_more Γ _ T f g h = tt

product_conv : {Δ : Env} {B B' : Term} (Γ : Ctx) (M : Term) → Equal Δ B B' → Product Δ Γ M B → Product Δ Γ M B'
product_conv Γ (Pi A C) e h = (h.0, h.1, h.2, h.3, transitive h.4 e)
product_conv Γ _ e h = tt

pub product : {Δ : Env} {Γ : Ctx} {M B : Term} → Derives Δ Γ M B → Product Δ Γ M B
product sort = tt
product (var dA) = tt
product (weak {M = M} {B = B} dM dC) = product_weak M B dC (product dM)
product (form {s = s} {z = z} dA dB) = (s, z, dA, dB, reflexive)
product (appl dM dN) = tt
product (abst dM dP) = tt
product (conv {M = M} dM dB e) = product_conv _ M e (product dM)
product (def {Δ = Δ} {K = K} {L = L} d dK e dM fresh) = product_more _ K L (λ _ _ _ x. def d x e dM fresh) (λ _ _ x. equal_more d Δ (in_scope dK).env fresh x) (product dK)
product (def_prim {Δ = Δ} {K = K} {L = L} d dK e dN fresh) = product_more _ K L (λ _ _ _ x. def_prim d x e dN fresh) (λ _ _ x. equal_more d Δ (in_scope dK).env fresh x) (product dK)
product (inst d dS dU p) = tt

-- validity of types
valid_map : {Δ Δ' : Env} {Γ Γ' : Ctx} {B C : Term} → (B ≡ Square → C ≡ Square) → ((s : Sort) → Derives Δ Γ B (Srt s) → (z : Sort) × Derives Δ' Γ' C (Srt z)) → IsValid Δ Γ B → IsValid Δ' Γ' C
valid_map f g (inl e) = inl (f e)
valid_map f g (inr h) = inr (g h.0 h.1)

item_more : (d : Item) (Δ Δ' : Env) → ((G : Ctx) (A B : Term) → Derives Δ G A B → Derives Δ' G A B) → IsValid Δ d.params d.ty → IsValid Δ' d.params d.ty
item_more d Δ Δ' f = valid_map (λ e. e) (λ s x. (s, f _ _ _ x))

item_either : (d c : Item) (h : Head) (Δ Δ' : Env) → ((G : Ctx) (A B : Term) → Derives Δ G A B → Derives Δ' G A B) → IsValid Δ d.params d.ty → (item_of h Δ ≡ Some c → IsValid Δ c.params c.ty) → item_of h (d ∷ Δ) ≡ Some c → IsValid Δ' c.params c.ty
item_either d c h Δ Δ' f v w = go (same_head h d.name)
  where
    go : (b : Bool) → found_at b d (item_of h Δ) ≡ Some c → IsValid Δ' c.params c.ty
    go true p = transport (λ x. IsValid Δ' x.params x.ty) (same_Some _ _ p) (item_more d Δ Δ' f v)
    go false p = item_more c Δ Δ' f (w p)

mutual
  pub valid : {Δ : Env} {Γ : Ctx} {M B : Term} → Derives Δ Γ M B → IsValid Δ Γ B
  valid sort = inl refl
  valid (var {s = s} dA) = inr (s, weak dA dA)
  valid (weak dM dC) = valid_map (λ e. ap weaken e) (λ s x. (s, weak x dC)) (valid dM)
  valid (form {z = star} dA dB) = inr (square, legal dA)
  valid (form {z = square} dA dB) = inl refl
  valid (appl {N = N} dM dN) = valid_map (λ e. absurd cc) (λ s x. ((product x).1, substitute_last (product x).3 dN)) (valid dM)
  valid (abst {s = s} dM dP) = inr (s, dP)
  valid (conv {s = s} dM dB e) = inr (s, dB)
  valid (def d dK e dM fresh) = valid_map (λ e. e) (λ s x. (s, def d x e dM fresh)) (valid dK)
  valid (def_prim d dK e dN fresh) = valid_map (λ e. e) (λ s x. (s, def_prim d x e dN fresh)) (valid dK)
  valid (inst {h = h} {us = us} d dS dU p) = valid_map (λ e. ap (subst_all us) e) (λ s x. (s, substitute_arguments dS x dU)) (item_valid dS h d p)

  -- the type of an item is valid
  pub item_valid : {Δ : Env} {Γ : Ctx} {M B : Term} → Derives Δ Γ M B → (h : Head) (c : Item) → item_of h Δ ≡ Some c → IsValid Δ c.params c.ty
  item_valid sort h c p = absurd cc
  item_valid (var dA) h c p = item_valid dA h c p
  item_valid (weak dM dC) h c p = item_valid dM h c p
  item_valid (form dA dB) h c p = item_valid dA h c p
  item_valid (appl dM dN) h c p = item_valid dM h c p
  item_valid (abst dM dP) h c p = item_valid dP h c p
  item_valid (conv dM dB e) h c p = item_valid dM h c p
  item_valid (def {Δ = Δ} d dK e dM fresh) h c p = item_either d c h Δ (d ∷ Δ) (λ _ _ _ x. def d x e dM fresh) (valid dM) (item_valid dK h c) p
  item_valid (def_prim {Δ = Δ} {s = s} d dK e dN fresh) h c p = item_either d c h Δ (d ∷ Δ) (λ _ _ _ x. def_prim d x e dN fresh) (inr (s, dN)) (item_valid dK h c) p
  item_valid (inst d dS dU q) h c p = item_valid dS h c p
