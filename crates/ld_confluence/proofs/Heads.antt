-- What holds of each constant of a term holds of each constant of the renamed and of the substituted term.
use Rattle.std.proofs.Common.{ℕ, zero, suc}
use Rattle.ld_trees.specs.Term.{◌▹◌, Head, Term, Srt, Var, App, Lam, Pi, Con, Terms, none}
use Rattle.ld_trees.specs.Substitution.{rename, lift, lift_name, renames, subst, substs, instantiate, subst_all}
use Rattle.ld_rules.specs.ScopedItems.{EachHead, EachHeadOfAll}

module _ (P : Head → Type 0) where
  mutual
    pub each_rename : (t : Term) (r : ℕ → ℕ) → EachHead P t → EachHead P (rename r t)
    each_rename (Srt s) r i = tt
    each_rename (Var k) r i = tt
    each_rename (App f a) r i = (each_rename f r i.0, each_rename a r i.1)
    each_rename (Lam A M) r i = (each_rename A r i.0, each_rename M (lift_name r) i.1)
    each_rename (Pi A B) r i = (each_rename A r i.0, each_rename B (lift_name r) i.1)
    each_rename (Con h us) r i = (i.0, all_rename us r i.1)

    all_rename : (us : Terms) (r : ℕ → ℕ) → EachHeadOfAll P us → EachHeadOfAll P (renames r us)
    all_rename none r i = tt
    all_rename (us ▹ u) r i = (all_rename us r i.0, each_rename u r i.1)

  mutual
    pub each_renamed : (t : Term) (r : ℕ → ℕ) → EachHead P (rename r t) → EachHead P t
    each_renamed (Srt s) r i = tt
    each_renamed (Var k) r i = tt
    each_renamed (App f a) r i = (each_renamed f r i.0, each_renamed a r i.1)
    each_renamed (Lam A M) r i = (each_renamed A r i.0, each_renamed M (lift_name r) i.1)
    each_renamed (Pi A B) r i = (each_renamed A r i.0, each_renamed B (lift_name r) i.1)
    each_renamed (Con h us) r i = (i.0, all_renamed us r i.1)

    all_renamed : (us : Terms) (r : ℕ → ℕ) → EachHeadOfAll P (renames r us) → EachHeadOfAll P us
    all_renamed none r i = tt
    all_renamed (us ▹ u) r i = (all_renamed us r i.0, each_renamed u r i.1)

  each_lift : (s : ℕ → Term) → ((k : ℕ) → EachHead P (s k)) → (k : ℕ) → EachHead P (lift s k)
  each_lift s f zero = tt
  each_lift s f (suc k) = each_rename (s k) suc (f k)

  mutual
    each_subst : (t : Term) (s : ℕ → Term) → EachHead P t → ((k : ℕ) → EachHead P (s k)) → EachHead P (subst s t)
    each_subst (Srt z) s i f = tt
    each_subst (Var k) s i f = f k
    each_subst (App g a) s i f = (each_subst g s i.0 f, each_subst a s i.1 f)
    each_subst (Lam A M) s i f = (each_subst A s i.0 f, each_subst M (lift s) i.1 (each_lift s f))
    each_subst (Pi A B) s i f = (each_subst A s i.0 f, each_subst B (lift s) i.1 (each_lift s f))
    each_subst (Con h us) s i f = (i.0, all_subst us s i.1 f)

    all_subst : (us : Terms) (s : ℕ → Term) → EachHeadOfAll P us → ((k : ℕ) → EachHead P (s k)) → EachHeadOfAll P (substs s us)
    all_subst none s i f = tt
    all_subst (us ▹ u) s i f = (all_subst us s i.0 f, each_subst u s i.1 f)

  each_argument : (us : Terms) → EachHeadOfAll P us → (k : ℕ) → EachHead P (instantiate us k)
  each_argument none i k = tt
  each_argument (us ▹ u) i zero = i.1
  each_argument (us ▹ u) i (suc k) = each_argument us i.0 k

  pub each_arguments : (us : Terms) (t : Term) → EachHeadOfAll P us → EachHead P t → EachHead P (subst_all us t)
  each_arguments us t i j = each_subst t (instantiate us) j (each_argument us i)
