-- Shifting, in the words of a program.
use Rattle.std.proofs.Common.{◌≡◌, ℕ, zero, suc, ◌+◌, ◌-◌, ◌<◌, ◌≤◌, refl, sym, ap, ap₂, ◌∙◌, arith, Bool, true, false, nat_lt, if◌then◌else◌}
use Rattle.ld_trees.specs.Term.{Term, Srt, Var, App, Lam, Pi, Con, Terms, none, ◌▹◌}
use Rattle.std.proofs.lemmas.Bool.Decides.{nat_tests}
use mathlib.Core.Path.{fun_ext}
use Rattle.ld_trees.specs.Substitution.{raise, shift, shifts, rename, renames, lift_name, weaken, lift, subst, substs, instantiate, subst_all, subst_at, substs_at}
use Rattle.ld_trees.proofs.SubstitutionLaws.{raise_lift, rename_rename, subst_of_rename, subst_var}

pub raise_below : (from by i : ℕ) → i < from → raise from by i ≡ i
raise_below zero by i l = absurd (omega arith)
raise_below (suc from) by zero l = refl
raise_below (suc from) by (suc i) l = ap suc (raise_below from by i (omega arith))

pub raise_above : (from by i : ℕ) → from ≤ i → raise from by i ≡ i + by
raise_above zero by i l = refl
raise_above (suc from) by zero l = absurd (omega arith)
raise_above (suc from) by (suc i) l = let h = raise_above from by i (omega arith) in omega (arith, h)

raise_next : (from by : ℕ) → lift_name (raise from by) ≡ raise (from + 1) by
raise_next from by = let e : suc from ≡ from + 1 = omega arith in raise_lift from by ∙ ap (λ n. raise n by) e

raise_is : (from by i : ℕ) → (if nat_lt i from then i else i + by) ≡ raise from by i
raise_is from by i = go (nat_lt i from) refl
  where
    go : (b : Bool) → nat_lt i from ≡ b → (if b then i else i + by) ≡ raise from by i
    go true e = sym (raise_below from by i (let l : i < from = grind (arith, nat_tests) in l))
    go false e = sym (raise_above from by i (let l : from ≤ i = grind (arith, nat_tests) in l))

-- shifting is a renaming
mutual
  pub shift_is : (t : Term) (from by : ℕ) → shift from by t ≡ rename (raise from by) t
  shift_is (Srt s) from by = refl
  shift_is (Var i) from by = ap Var (raise_is from by i)
  shift_is (App f a) from by = ap₂ App (shift_is f from by) (shift_is a from by)
  shift_is (Lam A M) from by = ap₂ Lam (shift_is A from by) (shift_is M (from + 1) by ∙ ap (λ r. rename r M) (sym (raise_next from by)))
  shift_is (Pi A M) from by = ap₂ Pi (shift_is A from by) (shift_is M (from + 1) by ∙ ap (λ r. rename r M) (sym (raise_next from by)))
  shift_is (Con h us) from by = ap (Con h) (shifts_are us from by)

  pub shifts_are : (us : Terms) (from by : ℕ) → shifts from by us ≡ renames (raise from by) us
  shifts_are none from by = refl
  shifts_are (us ▹ u) from by = ap₂ ◌▹◌ (shifts_are us from by) (shift_is u from by)

rename_itself : (t : Term) → rename (λ i. i) t ≡ t
rename_itself t = subst_of_rename (λ i. i) t ∙ subst_var t

-- a substitution under d binders
abbrev lifts : ℕ → (ℕ → Term) → ℕ → Term
lifts zero s = s
lifts (suc d) s = lift (lifts d s)

lifts_below : (d : ℕ) (s : ℕ → Term) (i : ℕ) → i < d → lifts d s i ≡ Var i
lifts_below zero s i l = absurd (omega arith)
lifts_below (suc d) s zero l = refl
lifts_below (suc d) s (suc i) l = ap weaken (lifts_below d s i (omega arith))

lifts_above : (d : ℕ) (s : ℕ → Term) (i : ℕ) → d ≤ i → lifts d s i ≡ rename (raise 0 d) (s (i - d))
lifts_above zero s i l =
    let e : i ≡ i - 0 = omega arith in
    ap s e ∙ sym (ap (λ r. rename r (s (i - 0))) (fun_ext no_bump) ∙ rename_itself (s (i - 0)))
  where
    no_bump : (j : ℕ) → raise 0 0 j ≡ j
    no_bump j = omega arith
lifts_above (suc d) s zero l = absurd (omega arith)
lifts_above (suc d) s (suc i) l =
    let e : i - d ≡ suc i - suc d = omega arith in
    ap weaken (lifts_above d s i (omega arith)) ∙ rename_rename suc (raise 0 d) (s (i - d)) ∙ ap₂ rename (fun_ext one_more) (ap s e)
  where
    one_more : (j : ℕ) → suc (raise 0 d j) ≡ raise 0 (suc d) j
    one_more j = omega arith

at_is : (d : ℕ) (s : ℕ → Term) (i : ℕ) → (if nat_lt i d then Var i else shift 0 d (s (i - d))) ≡ lifts d s i
at_is d s i = go (nat_lt i d) refl
  where
    go : (b : Bool) → nat_lt i d ≡ b → (if b then Var i else shift 0 d (s (i - d))) ≡ lifts d s i
    go true e = sym (lifts_below d s i (let l : i < d = grind (arith, nat_tests) in l))
    go false e = shift_is (s (i - d)) 0 d ∙ sym (lifts_above d s i (let l : d ≤ i = grind (arith, nat_tests) in l))

mutual
  pub subst_at_is : (t : Term) (d : ℕ) (vs : Terms) → subst_at d vs t ≡ subst (lifts d (instantiate vs)) t
  subst_at_is (Srt s) d vs = refl
  subst_at_is (Var i) d vs = at_is d (instantiate vs) i
  subst_at_is (App f a) d vs = ap₂ App (subst_at_is f d vs) (subst_at_is a d vs)
  subst_at_is (Lam f a) d vs = let e : d + 1 ≡ suc d = omega arith in ap₂ Lam (subst_at_is f d vs) (subst_at_is a (d + 1) vs ∙ ap (λ n. subst (lifts n (instantiate vs)) a) e)
  subst_at_is (Pi f a) d vs = let e : d + 1 ≡ suc d = omega arith in ap₂ Pi (subst_at_is f d vs) (subst_at_is a (d + 1) vs ∙ ap (λ n. subst (lifts n (instantiate vs)) a) e)
  subst_at_is (Con h us) d vs = ap (Con h) (substs_at_are us d vs)

  pub substs_at_are : (us : Terms) (d : ℕ) (vs : Terms) → substs_at d vs us ≡ substs (lifts d (instantiate vs)) us
  substs_at_are none d vs = refl
  substs_at_are (us ▹ u) d vs = ap₂ ◌▹◌ (substs_at_are us d vs) (subst_at_is u d vs)

-- at no binder
pub subst_all_is : (t : Term) (vs : Terms) → subst_at 0 vs t ≡ subst_all vs t
subst_all_is t vs = subst_at_is t 0 vs
