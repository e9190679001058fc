-- A derivation under a substitution and in another environment: thinning, substitution and change of environment are its cases.
use Rattle.std.proofs.Common.{◌≡◌, ℕ, suc, ◌∷◌, refl, sym, ap, ◌∙◌, Some, None, subst as transport, subst₂ as transport₂, Bool, true, false}
use Rattle.ld_trees.specs.Term.{Sort, Head, Term, Srt, Star, Square, Var, App, Lam, Pi, Con, Terms, none, ◌▹◌, count, same_head}
use Rattle.ld_trees.specs.Substitution.{weaken, lift, subst, substs, subst_all}
use Rattle.ld_trees.proofs.SubstitutionLaws.{subst_rename, rename_subst, subst_instantiate, subst_of_rename}
use Rattle.ld_trees.proofs.Equality.{same_head_is}
use Rattle.ld_rules.specs.Environment.{Ctx, Env, Item, item_of, found_at}
use Rattle.ld_rules.specs.Reduction.{Step, beta, delta, in_function, in_argument, in_lam_type, in_lam_body, in_domain, in_codomain, in_arguments, Steps, in_last, in_earlier, Equal, by_step, reflexive, symmetric, transitive}
use Rattle.ld_rules.specs.Derivation.{Derives, sort, var, weak, form, appl, abst, conv, def, def_prim, inst, Fits, no_argument, argument}
use Rattle.ld_trees.specs.Scoping.{Scoped}
use Rattle.ld_rules.specs.Scoping.{ContextScoped}
use Rattle.ld_rules.specs.Extension.{Refines, Extends}
use Rattle.ld_rules.proofs.ScopedTerms.{subst_of_arguments, substs_count}
use Rattle.ld_rules.proofs.ScopedJudgements.{EnvironmentScoped, in_scope, all_in_scope}

-- the environment and the context of a derivation are legal
pub legal : {Δ : Env} {Γ : Ctx} {M B : Term} → Derives Δ Γ M B → Derives Δ Γ Star Square
legal sort = sort
legal (var dA) = weak (legal dA) dA
legal (weak dM dC) = weak (legal dM) dC
legal (form dA dB) = legal dA
legal (appl dM dN) = legal dM
legal (abst dM dP) = legal dP
legal (conv dM dB e) = legal dM
legal (def d dK e dM fresh) = def d (legal dK) e dM fresh
legal (def_prim d dK e dN fresh) = def_prim d (legal dK) e dN fresh
legal (inst d dS dU p) = dS

-- the domain of a product has a sort
abbrev Domain : Env → Ctx → Term → Type 0
Domain Δ Γ (Pi A B) = (s : Sort) × Derives Δ Γ A (Srt s)
Domain Δ Γ _ = Unit {0}

domain_weak : {Δ : Env} {Γ : Ctx} {C : Term} {s : Sort} (M : Term) → Derives Δ Γ C (Srt s) → Domain Δ Γ M → Domain Δ (Γ ▹ C) (weaken M)
domain_weak (Pi A B) dC h = (h.0, weak h.1 dC)
domain_weak _ dC h = tt

domain_more : {Δ Δ' : Env} {Γ : Ctx} (M : Term) → ((A B : Term) → Derives Δ Γ A B → Derives Δ' Γ A B) → Domain Δ Γ M → Domain Δ' Γ M
domain_more (Pi A B) f h = (h.0, f _ _ h.1)
domain_more _ f h = tt

pub domain : {Δ : Env} {Γ : Ctx} {M B : Term} → Derives Δ Γ M B → Domain Δ Γ M
domain sort = tt
domain (var dA) = tt
domain (weak {M = M} dM dC) = domain_weak M dC (domain dM)
domain (form {s = s} dA dB) = (s, dA)
domain (appl dM dN) = tt
domain (abst dM dP) = tt
domain (conv dM dB e) = domain dM
domain (def {K = K} d dK e dM fresh) = domain_more K (λ _ _ x. def d x e dM fresh) (domain dK)
domain (def_prim {K = K} d dK e dN fresh) = domain_more K (λ _ _ x. def_prim d x e dN fresh) (domain dK)
domain (inst d dS dU p) = tt

pub refines_itself : (d : Item) → Refines d d
refines_itself d = record { params = refl; ty = refl; body = λ M e. e }

pub extends_itself : (Δ : Env) → Extends Δ Δ
extends_itself Δ h d p = (d, p, refines_itself d)

-- each entry of a context has, with a substitution, its type in another context
abbrev pub Into : Env → Ctx → (ℕ → Term) → Ctx → Type 0
Into Δ Γ' s none = Unit {0}
Into Δ Γ' s (Γ ▹ A) = Into Δ Γ' (λ i. s (suc i)) Γ × Derives Δ Γ' (s 0) (subst (λ i. s (suc i)) A)

pub into_weak : {Δ : Env} {Γ' : Ctx} {C : Term} {z : Sort} (Γ : Ctx) (s : ℕ → Term) → Derives Δ Γ' C (Srt z) → Into Δ Γ' s Γ → Into Δ (Γ' ▹ C) (λ i. weaken (s i)) Γ
into_weak none s dC h = tt
into_weak {Δ} {Γ'} {C} (Γ ▹ A) s dC h =
    (into_weak Γ (λ i. s (suc i)) dC h.0, transport (λ T. Derives Δ (Γ' ▹ C) (weaken (s 0)) T) (rename_subst suc (λ i. s (suc i)) A) (weak h.1 dC))

pub into_lift : {Δ : Env} {Γ' : Ctx} {z : Sort} (Γ : Ctx) (A : Term) (s : ℕ → Term) → Derives Δ Γ' (subst s A) (Srt z) → Into Δ Γ' s Γ → Into Δ (Γ' ▹ subst s A) (lift s) (Γ ▹ A)
into_lift {Δ} {Γ'} Γ A s dA h =
    (into_weak Γ s dA h, transport (λ T. Derives Δ (Γ' ▹ subst s A) (Var 0) T) (rename_subst suc s A) (var dA))

-- steps under a substitution
mutual
  step_subst : {Δ Δ' : Env} {a b : Term} → EnvironmentScoped Δ → Extends Δ Δ' → (s : ℕ → Term) → Step Δ a b → Step Δ' (subst s a) (subst s b)
  step_subst {Δ} {Δ'} ok ext s (beta {A = A} {M = M} {N = N}) =
      transport (λ T. Step Δ' (App (Lam (subst s A) (subst (lift s) M)) (subst s N)) T) (sym (subst_instantiate s N M)) beta
  step_subst {Δ} {Δ'} ok ext s (delta {h = h} {us = us} d M p e n) =
      transport (λ T. Step Δ' (Con h (substs s us)) T) (sym (subst_of_arguments s us M (transport (λ k. Scoped k M) (sym n) ((ok h d p).body M e)))) (let c = ext h d p in delta c.0 M c.1 (c.2.body M e) (substs_count us s ∙ n ∙ ap count c.2.params))
  step_subst ok ext s (in_function e) = in_function (step_subst ok ext s e)
  step_subst ok ext s (in_argument e) = in_argument (step_subst ok ext s e)
  step_subst ok ext s (in_lam_type e) = in_lam_type (step_subst ok ext s e)
  step_subst ok ext s (in_lam_body e) = in_lam_body (step_subst ok ext (lift s) e)
  step_subst ok ext s (in_domain e) = in_domain (step_subst ok ext s e)
  step_subst ok ext s (in_codomain e) = in_codomain (step_subst ok ext (lift s) e)
  step_subst ok ext s (in_arguments e) = in_arguments (steps_subst ok ext s e)

  steps_subst : {Δ Δ' : Env} {us vs : Terms} → EnvironmentScoped Δ → Extends Δ Δ' → (s : ℕ → Term) → Steps Δ us vs → Steps Δ' (substs s us) (substs s vs)
  steps_subst ok ext s (in_last e) = in_last (step_subst ok ext s e)
  steps_subst ok ext s (in_earlier e) = in_earlier (steps_subst ok ext s e)

pub equal_subst : {Δ Δ' : Env} {a b : Term} → EnvironmentScoped Δ → Extends Δ Δ' → (s : ℕ → Term) → Equal Δ a b → Equal Δ' (subst s a) (subst s b)
equal_subst ok ext s (by_step e) = by_step (step_subst ok ext s e)
equal_subst ok ext s reflexive = reflexive
equal_subst ok ext s (symmetric e) = symmetric (equal_subst ok ext s e)
equal_subst ok ext s (transitive e f) = transitive (equal_subst ok ext s e) (equal_subst ok ext s f)

-- a new item keeps what was found
pub found_below : (d : Item) (Δ : Env) → item_of d.name Δ ≡ None → (h : Head) (c : Item) → item_of h Δ ≡ Some c → item_of h (d ∷ Δ) ≡ Some c
found_below d Δ fresh h c p = go (same_head h d.name) refl
  where
    go : (b : Bool) → same_head h d.name ≡ b → found_at b d (item_of h Δ) ≡ Some c
    go true e = absurd (let q : item_of h Δ ≡ None = ap (λ k. item_of k Δ) (same_head_is h d.name e) ∙ fresh in cc)
    go false e = p

-- equal terms are equal under one more entry
pub equal_weaken : {Δ : Env} {a b : Term} → EnvironmentScoped Δ → Equal Δ a b → Equal Δ (weaken a) (weaken b)
equal_weaken {Δ} {a} {b} ok e = transport₂ (Equal Δ) (sym (subst_of_rename suc a)) (sym (subst_of_rename suc b)) (equal_subst ok (extends_itself Δ) (λ i. Var (suc i)) e)

-- an item's own name is new below it
pub extends_below : (d : Item) (Δ Δ' : Env) → item_of d.name Δ ≡ None → Extends (d ∷ Δ) Δ' → Extends Δ Δ'
extends_below d Δ Δ' fresh ext h c p = go (same_head h d.name) refl
  where
    go : (b : Bool) → same_head h d.name ≡ b → (c' : Item) × (item_of h Δ' ≡ Some c') × Refines c c'
    go true e =
        let n : h ≡ d.name = same_head_is h d.name e in
        absurd (let q : item_of h Δ ≡ None = ap (λ k. item_of k Δ) n ∙ fresh in cc)
    go false e = ext h c (ap (λ b. found_at b d (item_of h Δ)) e ∙ p)

mutual
  pub substitution : {Δ Δ' : Env} {Γ Γ' : Ctx} {M B : Term} → Derives Δ Γ M B → Extends Δ Δ' → Derives Δ' Γ' Star Square → (s : ℕ → Term) → Into Δ' Γ' s Γ → Derives Δ' Γ' (subst s M) (subst s B)
  substitution sort ext ok s h = ok
  substitution {Δ' = Δ'} {Γ' = Γ'} (var {A = A} dA) ext ok s h = transport (λ T. Derives Δ' Γ' (s 0) T) (sym (subst_rename s suc A)) h.1
  substitution {Δ' = Δ'} {Γ' = Γ'} (weak {M = M} {B = B} dM dC) ext ok s h =
      transport₂ (λ X Y. Derives Δ' Γ' X Y) (sym (subst_rename s suc M)) (sym (subst_rename s suc B)) (substitution dM ext ok (λ i. s (suc i)) h.0)
  substitution (form {Γ = Γ} {A = A} dA dB) ext ok s h =
      let a = substitution dA ext ok s h in
      form a (substitution dB ext (weak ok a) (lift s) (into_lift Γ A s a h))
  substitution {Δ' = Δ'} {Γ' = Γ'} (appl {M = M} {N = N} {B = B} dM dN) ext ok s h =
      transport (λ T. Derives Δ' Γ' (App (subst s M) (subst s N)) T) (sym (subst_instantiate s N B)) (appl (substitution dM ext ok s h) (substitution dN ext ok s h))
  substitution (abst {Γ = Γ} {A = A} dM dP) ext ok s h =
      let p = substitution dP ext ok s h in
      let a = (domain p).1 in
      abst (substitution dM ext (weak ok a) (lift s) (into_lift Γ A s a h)) p
  substitution (conv dM dB e) ext ok s h =
      conv (substitution dM ext ok s h) (substitution dB ext ok s h) (equal_subst (in_scope dM).env ext s e)
  substitution {Δ' = Δ'} (def {Δ = Δ} d dK e dM fresh) ext ok s h = substitution dK (extends_below d Δ Δ' fresh ext) ok s h
  substitution {Δ' = Δ'} (def_prim {Δ = Δ} d dK e dN fresh) ext ok s h = substitution dK (extends_below d Δ Δ' fresh ext) ok s h
  substitution {Δ' = Δ'} {Γ' = Γ'} (inst {h = c} {us = us} d dS dU p) ext ok s h =
      let n = (all_in_scope dU).alike in
      let k = transport (λ n. Scoped n d.ty) (sym n) ((in_scope dS).env c d p).ty in
      let d' = ext c d p in
      let fits = transport (Fits Δ' Γ' (substs s us)) d'.2.params (substitution_all dU ext ok s h ((in_scope dS).env c d p).params) in
      transport (λ T. Derives Δ' Γ' (Con c (substs s us)) T) (ap (subst_all (substs s us)) (sym d'.2.ty) ∙ sym (subst_of_arguments s us d.ty k)) (inst d'.0 ok fits d'.1)

  pub substitution_all : {Δ Δ' : Env} {Γ Γ' : Ctx} {us ps : Terms} → Fits Δ Γ us ps → Extends Δ Δ' → Derives Δ' Γ' Star Square → (s : ℕ → Term) → Into Δ' Γ' s Γ → ContextScoped ps → Fits Δ' Γ' (substs s us) ps
  substitution_all no_argument ext ok s h k = no_argument
  substitution_all {Δ' = Δ'} {Γ' = Γ'} (argument {us = us} {u = u} {P = P} dU du) ext ok s h k =
      argument (substitution_all dU ext ok s h k.0) (transport (λ T. Derives Δ' Γ' (subst s u) T) (subst_of_arguments s us P (transport (λ n. Scoped n P) (sym (all_in_scope dU).alike) k.1)) (substitution du ext ok s h))
