-- Renaming and simultaneous substitution, with their usual definition by lifting under binders (de Bruijn 1972), and the
-- two operations that programs call, by recursion on the tree: `shift` and `subst_at`. The laws of ../proofs say that they agree.
use Rattle.std.specs.Prelude.{ℕ, zero, suc, ◌+◌, ◌-◌, nat_lt, if◌then◌else◌}
use Rattle.ld_trees.specs.Term.{Term, Srt, Var, App, Lam, Pi, Con, Terms, none, ◌▹◌}

-- a renaming under one more binder
abbrev pub lift_name : (ℕ → ℕ) → ℕ → ℕ
lift_name r zero = zero
lift_name r (suc n) = suc (r n)

-- every variable i renamed to r i
abbrev mutual
  pub rename : (ℕ → ℕ) → Term → Term
  rename r (Srt z) = Srt z
  rename r (Var i) = Var (r i)
  rename r (App f a) = App (rename r f) (rename r a)
  rename r (Lam A M) = Lam (rename r A) (rename (lift_name r) M)
  rename r (Pi A B) = Pi (rename r A) (rename (lift_name r) B)
  rename r (Con h us) = Con h (renames r us)

  pub renames : (ℕ → ℕ) → Terms → Terms
  renames r none = none
  renames r (us ▹ u) = renames r us ▹ rename r u

-- one more entry in the context
abbrev pub weaken : Term → Term
weaken = rename suc

-- a substitution under one more binder
abbrev pub lift : (ℕ → Term) → ℕ → Term
lift s zero = Var zero
lift s (suc n) = weaken (s n)

-- every variable i replaced by s i
abbrev mutual
  pub subst : (ℕ → Term) → Term → Term
  subst s (Srt z) = Srt z
  subst s (Var i) = s i
  subst s (App f a) = App (subst s f) (subst s a)
  subst s (Lam A M) = Lam (subst s A) (subst (lift s) M)
  subst s (Pi A B) = Pi (subst s A) (subst (lift s) B)
  subst s (Con h us) = Con h (substs s us)

  pub substs : (ℕ → Term) → Terms → Terms
  substs s none = none
  substs s (us ▹ u) = substs s us ▹ subst s u

-- the last variables replaced by arguments, the first argument standing for the entry entered first; the others lowered
abbrev pub instantiate : Terms → ℕ → Term
instantiate none i = Var i
instantiate (us ▹ u) zero = u
instantiate (us ▹ u) (suc i) = instantiate us i

-- arguments put in for the last variables, at once
abbrev pub subst_all : Terms → Term → Term
subst_all us t = subst (instantiate us) t

-- `by` added to each number at or above `from`
abbrev pub raise : ℕ → ℕ → ℕ → ℕ
raise zero by i = i + by
raise (suc from) by zero = zero
raise (suc from) by (suc i) = suc (raise from by i)

-- ---- the same by recursion on the tree

-- `by` added to each variable at or above `from`
abbrev mutual
  pub shift : ℕ → ℕ → Term → Term
  shift from by (Srt s) = Srt s
  shift from by (Var i) = Var (if nat_lt i from then i else i + by)
  shift from by (App f a) = App (shift from by f) (shift from by a)
  shift from by (Lam A M) = Lam (shift from by A) (shift (from + 1) by M)
  shift from by (Pi A B) = Pi (shift from by A) (shift (from + 1) by B)
  shift from by (Con h us) = Con h (shifts from by us)

  pub shifts : ℕ → ℕ → Terms → Terms
  shifts from by none = none
  shifts from by (us ▹ u) = shifts from by us ▹ shift from by u

-- under d binders the arguments put in for the variables above them
abbrev mutual
  pub subst_at : ℕ → Terms → Term → Term
  subst_at d vs (Srt s) = Srt s
  subst_at d vs (Var i) = if nat_lt i d then Var i else shift 0 d (instantiate vs (i - d))
  subst_at d vs (App f a) = App (subst_at d vs f) (subst_at d vs a)
  subst_at d vs (Lam A M) = Lam (subst_at d vs A) (subst_at (d + 1) vs M)
  subst_at d vs (Pi A B) = Pi (subst_at d vs A) (subst_at (d + 1) vs B)
  subst_at d vs (Con h us) = Con h (substs_at d vs us)

  pub substs_at : ℕ → Terms → Terms → Terms
  substs_at d vs none = none
  substs_at d vs (us ▹ u) = substs_at d vs us ▹ subst_at d vs u
