-- The entries of a context: each has its type, and terms of their types stand in their place.
use Rattle.std.proofs.Common.{◌≡◌, ℕ, zero, suc, refl, sym, ap, ◌∙◌, Some, None, Option, subst as transport, subst₂ as transport₂, option_map, ◌↔◌, arith}
use Rattle.std.proofs.lemmas.Option.{same_Some}
use Rattle.ld_trees.specs.Term.{Sort, Term, Srt, Star, Square, Var, Terms, none, ◌▹◌, count}
use Rattle.ld_trees.specs.Substitution.{weaken, subst, instantiate, subst_all, lift_name, rename}
use Rattle.ld_trees.proofs.SubstitutionLaws.{rename_rename, subst_of_rename, subst_rename, subst_var}
use Rattle.ld_rules.specs.Environment.{Ctx, Env, type_at}
use Rattle.ld_rules.specs.Derivation.{Derives, sort, var, weak, form, appl, abst, conv, def, def_prim, inst, Fits, no_argument, argument}
use Rattle.ld_rules.specs.Extension.{KeepsEntries, Substitutes}
use Rattle.ld_rules.proofs.ScopedJudgements.{all_in_scope}
use Rattle.ld_rules.proofs.SubstitutionLemma.{legal, extends_itself, Into, into_weak, substitution}

-- the last entry of a legal context has a sort
abbrev Last : Env → Ctx → Type 0
Last Δ none = Unit {0}
Last Δ (Γ ▹ A) = (s : Sort) × Derives Δ Γ A (Srt s)

last_more : {Δ Δ' : Env} (Γ : Ctx) → ((G : Ctx) (A B : Term) → Derives Δ G A B → Derives Δ' G A B) → Last Δ Γ → Last Δ' Γ
last_more none f h = tt
last_more (Γ ▹ A) f h = (h.0, f _ _ _ h.1)

pub last : {Δ : Env} {Γ : Ctx} {M B : Term} → Derives Δ Γ M B → Last Δ Γ
last sort = tt
last (var {s = s} dA) = (s, dA)
last (weak {s = s} dM dC) = (s, dC)
last (form dA dB) = last dA
last (appl dM dN) = last dM
last (abst dM dP) = last dP
last (conv dM dB e) = last dM
last (def {Γ = Γ} d dK e dM fresh) = last_more Γ (λ _ _ _ x. def d x e dM fresh) (last dK)
last (def_prim {Γ = Γ} d dK e dN fresh) = last_more Γ (λ _ _ _ x. def_prim d x e dN fresh) (last dK)
last (inst d dS dU p) = last dS

-- each entry of a legal context has its type
pub into_itself : {Δ : Env} (Γ : Ctx) → Derives Δ Γ Star Square → Into Δ Γ Var Γ
into_itself none ok = tt
into_itself {Δ} (Γ ▹ A) ok =
    let a = last ok in
    (into_weak Γ Var a.1 (into_itself Γ (legal a.1)), transport (λ T. Derives Δ (Γ ▹ A) (Var 0) T) (subst_of_rename suc A) (var a.1))

pub into_instantiate : {Δ : Env} {Γ : Ctx} {N A : Term} → Derives Δ Γ N A → Into Δ Γ (instantiate (none ▹ N)) (Γ ▹ A)
into_instantiate {Δ} {Γ} {N} {A} dN = (into_itself Γ (legal dN), transport (λ T. Derives Δ Γ N T) (sym (subst_var A)) dN)

into_fits : {Δ : Env} {Γ : Ctx} {us ps : Terms} → Fits Δ Γ us ps → Into Δ Γ (instantiate us) ps
into_fits no_argument = tt
into_fits (argument dU du) = (into_fits dU, du)

-- an argument put in for the last entry
pub substitute_last : {Δ : Env} {Γ : Ctx} {M B N A : Term} → Derives Δ (Γ ▹ A) M B → Derives Δ Γ N A → Derives Δ Γ (subst_all (none ▹ N) M) (subst_all (none ▹ N) B)
substitute_last {N = N} dM dN = substitution dM (extends_itself _) (legal dN) (instantiate (none ▹ N)) (into_instantiate dN)

-- arguments put in for all entries
pub substitute_arguments : {Δ : Env} {Γ : Ctx} {M B : Term} {us ps : Terms} → Derives Δ Γ Star Square → Derives Δ ps M B → Fits Δ Γ us ps → Derives Δ Γ (subst_all us M) (subst_all us B)
substitute_arguments {us = us} ok dM dU = substitution dM (extends_itself _) ok (instantiate us) (into_fits dU)

-- each entry has its type under a substitution, said by recursion on the context and of each place
pub into_entries : {Δ : Env} {Γ' : Ctx} (Γ : Ctx) (s : ℕ → Term) → Into Δ Γ' s Γ → Substitutes Δ Γ Γ' s
into_entries none s h i T e = absurd cc
into_entries {Δ} {Γ'} (Γ ▹ A) s h zero T e = transport (Derives Δ Γ' (s 0)) (sym (subst_rename s suc A) ∙ ap (subst s) (same_Some _ _ e)) h.1
into_entries {Δ} {Γ'} (Γ ▹ A) s h (suc i) T e = go (type_at Γ i) (into_entries Γ (λ j. s (suc j)) h.0 i) e
  where
    go : (o : Option Term) → ((U : Term) → o ≡ Some U → Derives Δ Γ' (s (suc i)) (subst (λ j. s (suc j)) U)) → option_map weaken o ≡ Some T → Derives Δ Γ' (s (suc i)) (subst s T)
    go None f q = absurd cc
    go (Some U) f q = transport (Derives Δ Γ' (s (suc i))) (sym (subst_rename s suc U) ∙ ap (subst s) (same_Some _ _ q)) (f U refl)

pub entries_into : {Δ : Env} {Γ' : Ctx} (Γ : Ctx) (s : ℕ → Term) → Substitutes Δ Γ Γ' s → Into Δ Γ' s Γ
entries_into none s h = tt
entries_into {Δ} {Γ'} (Γ ▹ A) s h = (
  entries_into Γ (λ i. s (suc i)) (λ i T e. transport (Derives Δ Γ' (s (suc i))) (subst_rename s suc T) (h (suc i) (weaken T) (ap (option_map weaken) e))),
  transport (Derives Δ Γ' (s 0)) (subst_rename s suc A) (h 0 (weaken A) refl),
)

-- in a legal context each variable has its type
pub entry_derives : {Δ : Env} (Γ : Ctx) (i : ℕ) (T : Term) → Derives Δ Γ Star Square → type_at Γ i ≡ Some T → Derives Δ Γ (Var i) T
entry_derives {Δ} Γ i T ok e = transport (Derives Δ Γ (Var i)) (subst_var T) (into_entries Γ Var (into_itself Γ ok) i T e)

-- a term of its type in place of each entry
pub substitute : {Δ : Env} {Γ Γ' : Ctx} {M B : Term} (s : ℕ → Term) → Derives Δ Γ M B → Derives Δ Γ' Star Square → Substitutes Δ Γ Γ' s → Derives Δ Γ' (subst s M) (subst s B)
substitute {Γ = Γ} s dM ok h = substitution dM (extends_itself _) ok s (entries_into Γ s h)

-- thinning: the entries are among those of another legal context
pub thinning : {Δ : Env} {Γ Γ' : Ctx} {M B : Term} (r : ℕ → ℕ) → Derives Δ Γ M B → Derives Δ Γ' Star Square → KeepsEntries Γ Γ' r → Derives Δ Γ' (rename r M) (rename r B)
thinning {Δ} {Γ} {Γ'} {M} {B} r dM ok keeps =
    let s : ℕ → Term = λ i. Var (r i) in
    let each : Substitutes Δ Γ Γ' s = λ i T e. transport (Derives Δ Γ' (Var (r i))) (subst_of_rename r T) (entry_derives Γ' (r i) (rename r T) ok (keeps i T e)) in
    transport₂ (Derives Δ Γ') (sym (subst_of_rename r M)) (sym (subst_of_rename r B)) (substitute s dM ok each)

-- one argument per parameter, each of the type of its parameter with all arguments put in
fits_from : {Δ : Env} {Γ : Ctx} (us ps : Terms) → count us ≡ count ps → Into Δ Γ (instantiate us) ps → Fits Δ Γ us ps
fits_from none none n h = no_argument
fits_from (us ▹ u) (ps ▹ P) n h = argument (fits_from us ps (omega arith) h.0) h.1
fits_from none (ps ▹ P) n h = absurd (omega arith)
fits_from (us ▹ u) none n h = absurd (omega arith)

pub arguments_fit : (Δ : Env) (Γ ps : Ctx) (us : Terms) → Fits Δ Γ us ps ↔ ((count us ≡ count ps) × ((i : ℕ) (P : Term) → type_at ps i ≡ Some P → Derives Δ Γ (instantiate us i) (subst_all us P)))
arguments_fit Δ Γ ps us = (
  λ f. ((all_in_scope f).alike, into_entries ps (instantiate us) (into_fits f)),
  λ h. fits_from us ps h.0 (entries_into ps (instantiate us) h.1),
)

-- one more entry before the last one
keeps_under : (Γ : Ctx) (A C : Term) → KeepsEntries (Γ ▹ A) (Γ ▹ C ▹ weaken A) (lift_name suc)
keeps_under Γ A C i T = go i
  where
    twice : (U : Term) → Some (weaken U) ≡ Some T → Some (weaken (weaken U)) ≡ Some (rename (lift_name suc) T)
    twice U e = ap Some (rename_rename suc suc U ∙ sym (rename_rename (lift_name suc) suc U) ∙ ap (rename (lift_name suc)) (same_Some _ _ e))

    earlier : (o : Option Term) → option_map weaken o ≡ Some T → option_map weaken (option_map weaken o) ≡ Some (rename (lift_name suc) T)
    earlier None e = absurd cc
    earlier (Some U) e = twice U e

    go : (i : ℕ) → type_at (Γ ▹ A) i ≡ Some T → type_at (Γ ▹ C ▹ weaken A) (lift_name suc i) ≡ Some (rename (lift_name suc) T)
    go zero e = twice A e
    go (suc j) e = earlier (type_at Γ j) e

pub weak_under : {Δ : Env} {Γ : Ctx} {A B T C : Term} {s z : Sort} → Derives Δ (Γ ▹ A) B T → Derives Δ Γ A (Srt s) → Derives Δ Γ C (Srt z) → Derives Δ (Γ ▹ C ▹ weaken A) (rename (lift_name suc) B) (rename (lift_name suc) T)
weak_under {Γ = Γ} {A = A} {C = C} dB dA dC = thinning (lift_name suc) dB (weak (weak (legal dA) dC) (weak dA dC)) (keeps_under Γ A C)
