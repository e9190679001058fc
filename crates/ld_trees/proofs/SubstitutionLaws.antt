-- The laws of substitution.
use Rattle.std.proofs.Common.{◌≡◌, ℕ, zero, suc, refl, sym, ap, ap₂, ◌∙◌}
use mathlib.Core.Path.{fun_ext}
use Rattle.ld_trees.specs.Term.{Term, Srt, Var, App, Lam, Pi, Con, Terms, none, ◌▹◌}
use Rattle.ld_trees.specs.Substitution.{lift_name, rename, renames, weaken, lift, subst, substs, instantiate, raise}

lift_name_comp : (r q : ℕ → ℕ) → (λ i. lift_name r (lift_name q i)) ≡ lift_name (λ i. r (q i))
lift_name_comp r q = fun_ext (elim [ zero ↦ refl | suc n ↦ refl ])

mutual
  pub rename_rename : (r q : ℕ → ℕ) (t : Term) → rename r (rename q t) ≡ rename (λ i. r (q i)) t
  rename_rename r q (Srt c) = refl
  rename_rename r q (Var i) = refl
  rename_rename r q (App f a) = ap₂ App (rename_rename r q f) (rename_rename r q a)
  rename_rename r q (Lam A M) = ap₂ Lam (rename_rename r q A) (rename_rename (lift_name r) (lift_name q) M ∙ ap (λ s. rename s M) (lift_name_comp r q))
  rename_rename r q (Pi A M) = ap₂ Pi (rename_rename r q A) (rename_rename (lift_name r) (lift_name q) M ∙ ap (λ s. rename s M) (lift_name_comp r q))
  rename_rename r q (Con h us) = ap (Con h) (renames_renames r q us)

  pub renames_renames : (r q : ℕ → ℕ) (us : Terms) → renames r (renames q us) ≡ renames (λ i. r (q i)) us
  renames_renames r q none = refl
  renames_renames r q (us ▹ u) = ap₂ ◌▹◌ (renames_renames r q us) (rename_rename r q u)

-- a substitution after a renaming
lift_comp : (s : ℕ → Term) (q : ℕ → ℕ) → (λ i. lift s (lift_name q i)) ≡ lift (λ i. s (q i))
lift_comp s q = fun_ext (elim [ zero ↦ refl | suc n ↦ refl ])

mutual
  pub subst_rename : (s : ℕ → Term) (q : ℕ → ℕ) (t : Term) → subst s (rename q t) ≡ subst (λ i. s (q i)) t
  subst_rename s q (Srt c) = refl
  subst_rename s q (Var i) = refl
  subst_rename s q (App f a) = ap₂ App (subst_rename s q f) (subst_rename s q a)
  subst_rename s q (Lam A M) = ap₂ Lam (subst_rename s q A) (subst_rename (lift s) (lift_name q) M ∙ ap (λ z. subst z M) (lift_comp s q))
  subst_rename s q (Pi A M) = ap₂ Pi (subst_rename s q A) (subst_rename (lift s) (lift_name q) M ∙ ap (λ z. subst z M) (lift_comp s q))
  subst_rename s q (Con h us) = ap (Con h) (substs_renames s q us)

  pub substs_renames : (s : ℕ → Term) (q : ℕ → ℕ) (us : Terms) → substs s (renames q us) ≡ substs (λ i. s (q i)) us
  substs_renames s q none = refl
  substs_renames s q (us ▹ u) = ap₂ ◌▹◌ (substs_renames s q us) (subst_rename s q u)

-- a renaming after a substitution
lift_after : (r : ℕ → ℕ) (s : ℕ → Term) → (λ i. rename (lift_name r) (lift s i)) ≡ lift (λ i. rename r (s i))
lift_after r s = fun_ext (elim [ zero ↦ refl | suc n ↦ rename_rename (lift_name r) suc (s n) ∙ sym (rename_rename suc r (s n)) ])

mutual
  pub rename_subst : (r : ℕ → ℕ) (s : ℕ → Term) (t : Term) → rename r (subst s t) ≡ subst (λ i. rename r (s i)) t
  rename_subst r s (Srt c) = refl
  rename_subst r s (Var i) = refl
  rename_subst r s (App f a) = ap₂ App (rename_subst r s f) (rename_subst r s a)
  rename_subst r s (Lam A M) = ap₂ Lam (rename_subst r s A) (rename_subst (lift_name r) (lift s) M ∙ ap (λ z. subst z M) (lift_after r s))
  rename_subst r s (Pi A M) = ap₂ Pi (rename_subst r s A) (rename_subst (lift_name r) (lift s) M ∙ ap (λ z. subst z M) (lift_after r s))
  rename_subst r s (Con h us) = ap (Con h) (renames_substs r s us)

  pub renames_substs : (r : ℕ → ℕ) (s : ℕ → Term) (us : Terms) → renames r (substs s us) ≡ substs (λ i. rename r (s i)) us
  renames_substs r s none = refl
  renames_substs r s (us ▹ u) = ap₂ ◌▹◌ (renames_substs r s us) (rename_subst r s u)

-- a substitution after a substitution
lift_lift : (s z : ℕ → Term) → (λ i. subst (lift s) (lift z i)) ≡ lift (λ i. subst s (z i))
lift_lift s z = fun_ext (elim [ zero ↦ refl | suc n ↦ subst_rename (lift s) suc (z n) ∙ sym (rename_subst suc s (z n)) ])

mutual
  pub subst_subst : (s z : ℕ → Term) (t : Term) → subst s (subst z t) ≡ subst (λ i. subst s (z i)) t
  subst_subst s z (Srt c) = refl
  subst_subst s z (Var i) = refl
  subst_subst s z (App f a) = ap₂ App (subst_subst s z f) (subst_subst s z a)
  subst_subst s z (Lam A M) = ap₂ Lam (subst_subst s z A) (subst_subst (lift s) (lift z) M ∙ ap (λ q. subst q M) (lift_lift s z))
  subst_subst s z (Pi A M) = ap₂ Pi (subst_subst s z A) (subst_subst (lift s) (lift z) M ∙ ap (λ q. subst q M) (lift_lift s z))
  subst_subst s z (Con h us) = ap (Con h) (substs_substs s z us)

  pub substs_substs : (s z : ℕ → Term) (us : Terms) → substs s (substs z us) ≡ substs (λ i. subst s (z i)) us
  substs_substs s z none = refl
  substs_substs s z (us ▹ u) = ap₂ ◌▹◌ (substs_substs s z us) (subst_subst s z u)

-- the variables for themselves
lift_var : lift Var ≡ Var
lift_var = fun_ext (elim [ zero ↦ refl | suc n ↦ refl ])

mutual
  pub subst_var : (t : Term) → subst Var t ≡ t
  subst_var (Srt c) = refl
  subst_var (Var i) = refl
  subst_var (App f a) = ap₂ App (subst_var f) (subst_var a)
  subst_var (Lam A M) = ap₂ Lam (subst_var A) (ap (λ q. subst q M) lift_var ∙ subst_var M)
  subst_var (Pi A M) = ap₂ Pi (subst_var A) (ap (λ q. subst q M) lift_var ∙ subst_var M)
  subst_var (Con h us) = ap (Con h) (substs_var us)

  pub substs_var : (us : Terms) → substs Var us ≡ us
  substs_var none = refl
  substs_var (us ▹ u) = ap₂ ◌▹◌ (substs_var us) (subst_var u)

-- a renaming is a substitution
pub lift_of_name : (r : ℕ → ℕ) → (λ i. Var (lift_name r i)) ≡ lift (λ i. Var (r i))
lift_of_name r = fun_ext (elim [ zero ↦ refl | suc n ↦ refl ])

pub subst_of_rename : (r : ℕ → ℕ) (t : Term) → rename r t ≡ subst (λ i. Var (r i)) t
subst_of_rename r t = sym (subst_var (rename r t)) ∙ subst_rename Var r t

-- what one more entry and its removal leave
pub instantiate_weaken : (u t : Term) → subst (instantiate (none ▹ u)) (weaken t) ≡ t
instantiate_weaken u t = subst_rename (instantiate (none ▹ u)) suc t ∙ subst_var t

-- under a substitution the weakened entries stay
pub subst_weaken : (s : ℕ → Term) (t : Term) → subst (lift s) (weaken t) ≡ weaken (subst s t)
subst_weaken s t = subst_rename (lift s) suc t ∙ sym (rename_subst suc s t)

-- one argument put in, under a substitution
pub subst_instantiate : (s : ℕ → Term) (u t : Term) → subst s (subst (instantiate (none ▹ u)) t) ≡ subst (instantiate (none ▹ subst s u)) (subst (lift s) t)
subst_instantiate s u t = subst_subst s (instantiate (none ▹ u)) t ∙ ap (λ q. subst q t) (fun_ext go) ∙ sym (subst_subst (instantiate (none ▹ subst s u)) (lift s) t)
  where
    go : (i : ℕ) → subst s (instantiate (none ▹ u) i) ≡ subst (instantiate (none ▹ subst s u)) (lift s i)
    go zero = refl
    go (suc n) = sym (instantiate_weaken (subst s u) (s n))

-- shifting goes under a binder with the place one further
pub raise_lift : (from by : ℕ) → lift_name (raise from by) ≡ raise (suc from) by
raise_lift from by = fun_ext (go by)
  where
    go : (b : ℕ) (i : ℕ) → lift_name (raise from b) i ≡ raise (suc from) b i
    go b zero = refl
    go b (suc i) = refl
