-- Scoped terms under renaming and substitution.
use Rattle.std.proofs.Common.{◌≡◌, ℕ, zero, suc, ◌<◌, refl, sym, ap, ap₂, ◌∙◌, arith}
use Rattle.ld_trees.specs.Term.{Term, Srt, Var, App, Lam, Pi, Con, Terms, none, ◌▹◌, count}
use Rattle.ld_trees.specs.Substitution.{lift_name, rename, renames, weaken, lift, subst, substs, instantiate, subst_all}
use Rattle.ld_trees.proofs.SubstitutionLaws.{subst_subst, subst_of_rename}
use Rattle.ld_trees.specs.Scoping.{Scoped, AllScoped}

lift_name_below : (n m : ℕ) (r : ℕ → ℕ) → ((i : ℕ) → i < n → r i < m) → (i : ℕ) → i < suc n → lift_name r i < suc m
lift_name_below n m r h zero l = omega arith
lift_name_below n m r h (suc i) l = let b = h i (omega arith) in omega arith

mutual
  pub rename_scoped : (t : Term) (n m : ℕ) (r : ℕ → ℕ) → ((i : ℕ) → i < n → r i < m) → Scoped n t → Scoped m (rename r t)
  rename_scoped (Srt s) n m r h k = tt
  rename_scoped (Var i) n m r h k = h i k
  rename_scoped (App a b) n m r h k = (rename_scoped a n m r h k.0, rename_scoped b n m r h k.1)
  rename_scoped (Lam a b) n m r h k = (rename_scoped a n m r h k.0, rename_scoped b (suc n) (suc m) (lift_name r) (lift_name_below n m r h) k.1)
  rename_scoped (Pi a b) n m r h k = (rename_scoped a n m r h k.0, rename_scoped b (suc n) (suc m) (lift_name r) (lift_name_below n m r h) k.1)
  rename_scoped (Con c us) n m r h k = renames_scoped us n m r h k

  pub renames_scoped : (us : Terms) (n m : ℕ) (r : ℕ → ℕ) → ((i : ℕ) → i < n → r i < m) → AllScoped n us → AllScoped m (renames r us)
  renames_scoped none n m r h k = tt
  renames_scoped (us ▹ u) n m r h k = (renames_scoped us n m r h k.0, rename_scoped u n m r h k.1)

pub weaken_scoped : (t : Term) (n : ℕ) → Scoped n t → Scoped (suc n) (weaken t)
weaken_scoped t n = rename_scoped t n (suc n) suc (λ i l. omega arith)

lift_below : (n m : ℕ) (s : ℕ → Term) → ((i : ℕ) → i < n → Scoped m (s i)) → (i : ℕ) → i < suc n → Scoped (suc m) (lift s i)
lift_below n m s h zero l = omega arith
lift_below n m s h (suc i) l = weaken_scoped (s i) m (h i (omega arith))

mutual
  pub subst_scoped : (t : Term) (n m : ℕ) (s : ℕ → Term) → ((i : ℕ) → i < n → Scoped m (s i)) → Scoped n t → Scoped m (subst s t)
  subst_scoped (Srt c) n m s h k = tt
  subst_scoped (Var i) n m s h k = h i k
  subst_scoped (App a b) n m s h k = (subst_scoped a n m s h k.0, subst_scoped b n m s h k.1)
  subst_scoped (Lam a b) n m s h k = (subst_scoped a n m s h k.0, subst_scoped b (suc n) (suc m) (lift s) (lift_below n m s h) k.1)
  subst_scoped (Pi a b) n m s h k = (subst_scoped a n m s h k.0, subst_scoped b (suc n) (suc m) (lift s) (lift_below n m s h) k.1)
  subst_scoped (Con c us) n m s h k = substs_scoped us n m s h k

  pub substs_scoped : (us : Terms) (n m : ℕ) (s : ℕ → Term) → ((i : ℕ) → i < n → Scoped m (s i)) → AllScoped n us → AllScoped m (substs s us)
  substs_scoped none n m s h k = tt
  substs_scoped (us ▹ u) n m s h k = (substs_scoped us n m s h k.0, subst_scoped u n m s h k.1)

-- what is put in for variables that do not occur makes no difference
lift_agree : (n : ℕ) (s z : ℕ → Term) → ((i : ℕ) → i < n → s i ≡ z i) → (i : ℕ) → i < suc n → lift s i ≡ lift z i
lift_agree n s z h zero l = refl
lift_agree n s z h (suc i) l = ap weaken (h i (omega arith))

mutual
  pub subst_agree : (t : Term) (n : ℕ) (s z : ℕ → Term) → ((i : ℕ) → i < n → s i ≡ z i) → Scoped n t → subst s t ≡ subst z t
  subst_agree (Srt c) n s z h k = refl
  subst_agree (Var i) n s z h k = h i k
  subst_agree (App a b) n s z h k = ap₂ App (subst_agree a n s z h k.0) (subst_agree b n s z h k.1)
  subst_agree (Lam a b) n s z h k = ap₂ Lam (subst_agree a n s z h k.0) (subst_agree b (suc n) (lift s) (lift z) (lift_agree n s z h) k.1)
  subst_agree (Pi a b) n s z h k = ap₂ Pi (subst_agree a n s z h k.0) (subst_agree b (suc n) (lift s) (lift z) (lift_agree n s z h) k.1)
  subst_agree (Con c us) n s z h k = ap (Con c) (substs_agree us n s z h k)

  pub substs_agree : (us : Terms) (n : ℕ) (s z : ℕ → Term) → ((i : ℕ) → i < n → s i ≡ z i) → AllScoped n us → substs s us ≡ substs z us
  substs_agree none n s z h k = refl
  substs_agree (us ▹ u) n s z h k = ap₂ ◌▹◌ (substs_agree us n s z h k.0) (subst_agree u n s z h k.1)

-- arguments, for the variables that they stand for
instantiate_scoped : (us : Terms) (n : ℕ) → AllScoped n us → (i : ℕ) → i < count us → Scoped n (instantiate us i)
instantiate_scoped none n k i l = absurd (omega arith)
instantiate_scoped (us ▹ u) n k zero l = k.1
instantiate_scoped (us ▹ u) n k (suc i) l = instantiate_scoped us n k.0 i (omega arith)

pub arguments_scoped : (us : Terms) (t : Term) (n : ℕ) → AllScoped n us → Scoped (count us) t → Scoped n (subst_all us t)
arguments_scoped us t n k = subst_scoped t (count us) n (instantiate us) (instantiate_scoped us n k)

-- one argument put in, in the context of what is left
pub last_argument_scoped : (u t : Term) (n : ℕ) → Scoped n u → Scoped (suc n) t → Scoped n (subst_all (none ▹ u) t)
last_argument_scoped u t n k = subst_scoped t (suc n) n (instantiate (none ▹ u)) go
  where
    go : (i : ℕ) → i < suc n → Scoped n (instantiate (none ▹ u) i)
    go zero l = k
    go (suc i) l = omega arith

-- a substitution goes into the argument that stands for a variable
subst_of_argument : (us : Terms) (s : ℕ → Term) (i : ℕ) → i < count us → subst s (instantiate us i) ≡ instantiate (substs s us) i
subst_of_argument none s i l = absurd (omega arith)
subst_of_argument (us ▹ u) s zero l = refl
subst_of_argument (us ▹ u) s (suc i) l = subst_of_argument us s i (omega arith)

pub substs_count : (us : Terms) (s : ℕ → Term) → count (substs s us) ≡ count us
substs_count none s = refl
substs_count (us ▹ u) s = ap suc (substs_count us s)

-- a substitution goes into the arguments of a term that has no other variables
pub subst_of_arguments : (s : ℕ → Term) (us : Terms) (t : Term) → Scoped (count us) t → subst s (subst_all us t) ≡ subst_all (substs s us) t
subst_of_arguments s us t k = subst_subst s (instantiate us) t ∙ subst_agree t (count us) (λ i. subst s (instantiate us i)) (instantiate (substs s us)) (subst_of_argument us s) k

pub renames_count : (us : Terms) (r : ℕ → ℕ) → count (renames r us) ≡ count us
renames_count none r = refl
renames_count (us ▹ u) r = ap suc (renames_count us r)

-- a renaming of arguments is a substitution
pub renames_are : (r : ℕ → ℕ) (us : Terms) → renames r us ≡ substs (λ i. Var (r i)) us
renames_are r none = refl
renames_are r (us ▹ u) = ap₂ ◌▹◌ (renames_are r us) (subst_of_rename r u)

-- a renaming goes into the arguments of a term that has no other variables
pub rename_of_arguments : (r : ℕ → ℕ) (us : Terms) (t : Term) → Scoped (count us) t → rename r (subst_all us t) ≡ subst_all (renames r us) t
rename_of_arguments r us t k = subst_of_rename r (subst_all us t) ∙ subst_of_arguments (λ i. Var (r i)) us t k ∙ ap (λ x. subst_all x t) (sym (renames_are r us))
