-- What sorts, products and derived terms reduce to.
use Rattle.std.proofs.Common.{◌≡◌, refl, subst as transport}
use Rattle.ld_trees.specs.Term.{Term, Sort, Srt, Pi, square, star, Var, App, Lam, Con}
use Rattle.ld_trees.specs.Substitution.{weaken}
use Rattle.ld_rules.specs.Environment.{Env, Ctx}
use Rattle.ld_rules.specs.Reduction.{Equal, reflexive, transitive, by_step, Step, beta, delta, in_function, in_argument, in_lam_type, in_lam_body, in_domain, in_codomain, in_arguments}
use Rattle.ld_rules.specs.Derivation.{Derives, sort, weak, var, form, appl, abst, conv, def, def_prim, inst}
use Rattle.ld_confluence.specs.Reducts.{Reduces, no_steps, step_and}
use Rattle.ld_confluence.proofs.SubjectReduction.{subject_reduction}

pub reduces_equal : {Δ : Env} {a b : Term} → Reduces Δ a b → Equal Δ a b
reduces_equal no_steps = reflexive
reduces_equal (step_and e r) = transitive (by_step e) (reduces_equal r)

pub reduces_keep : {Δ : Env} {Γ : Ctx} {M N B : Term} → Reduces Δ M N → Derives Δ Γ M B → Derives Δ Γ N B
reduces_keep no_steps d = d
reduces_keep (step_and e r) d = reduces_keep r (subject_reduction _ _ _ _ _ d e)

-- a sort has no step
abbrev NotSort : Term → Type 0
NotSort (Srt s) = ⊥
NotSort _ = Unit {0}

step_not_sort : {Δ : Env} {a b : Term} → Step Δ a b → NotSort a
step_not_sort beta = tt
step_not_sort (delta d M p e n) = tt
step_not_sort (in_function e) = tt
step_not_sort (in_argument e) = tt
step_not_sort (in_lam_type e) = tt
step_not_sort (in_lam_body e) = tt
step_not_sort (in_domain e) = tt
step_not_sort (in_codomain e) = tt
step_not_sort (in_arguments e) = tt

pub sort_reduct : {Δ : Env} {a c : Term} → Reduces Δ a c → (s : Sort) → a ≡ Srt s → c ≡ Srt s
sort_reduct no_steps s q = q
sort_reduct (step_and e r) s q = absurd (transport NotSort q (step_not_sort e))

-- a product steps to a product
abbrev pub ToProduct : Env → Term → Term → Term → Type 0
ToProduct Δ A B c = (C : Term) × (D : Term) × (c ≡ Pi C D) × Equal Δ A C × Equal Δ B D

step_product : {Δ : Env} {a b : Term} → Step Δ a b → (A B : Term) → a ≡ Pi A B → ToProduct Δ A B b
step_product beta A B q = absurd cc
step_product (delta d M p e n) A B q = absurd cc
step_product (in_function e) A B q = absurd cc
step_product (in_argument e) A B q = absurd cc
step_product (in_lam_type e) A B q = absurd cc
step_product (in_lam_body e) A B q = absurd cc
step_product {Δ} (in_domain {A = X} {B = Y} {M = M} e) A B q =
    let x : X ≡ A = cc in
    let y : M ≡ B = cc in
    (Y, M, refl, transport (λ t. Equal Δ t Y) x (by_step e), transport (λ t. Equal Δ t M) y reflexive)
step_product {Δ} (in_codomain {A = X} {M = M} {N = N} e) A B q =
    let x : X ≡ A = cc in
    let y : M ≡ B = cc in
    (X, N, refl, transport (λ t. Equal Δ t X) x reflexive, transport (λ t. Equal Δ t N) y (by_step e))
step_product (in_arguments e) A B q = absurd cc

pub product_reduct : {Δ : Env} {a c : Term} → Reduces Δ a c → (A B : Term) → a ≡ Pi A B → ToProduct Δ A B c
product_reduct no_steps A B q = (A, B, q, reflexive, reflexive)
product_reduct (step_and e r) A B q =
    let p = step_product e A B q in
    let t = product_reduct r p.0 p.1 p.2 in
    (t.0, t.1, t.2, transitive p.3 t.3, transitive p.4 t.4)

-- the upper sort has no type
abbrev pub NotSquare : Term → Type 0
NotSquare (Srt square) = ⊥
NotSquare _ = Unit {0}

not_square_weak : (M : Term) → NotSquare M → NotSquare (weaken M)
not_square_weak (Srt star) h = tt
not_square_weak (Srt square) h = h
not_square_weak (Var i) h = tt
not_square_weak (App f a) h = tt
not_square_weak (Lam f a) h = tt
not_square_weak (Pi f a) h = tt
not_square_weak (Con f a) h = tt

pub not_square : {Δ : Env} {Γ : Ctx} {M B : Term} → Derives Δ Γ M B → NotSquare M
not_square sort = tt
not_square (var dA) = tt
not_square (weak {M = M} dM dC) = not_square_weak M (not_square dM)
not_square (form dA dB) = tt
not_square (appl dM dN) = tt
not_square (abst dM dP) = tt
not_square (conv dM dB e) = not_square dM
not_square (def d dK e dM fresh) = not_square dK
not_square (def_prim d dK e dN fresh) = not_square dK
not_square (inst d dS dU p) = tt
