-- Parallel reduction: any of the redexes of a term at once. It is confluent, as every parallel step of a term goes on to its complete development.
use Rattle.std.proofs.Common.{◌≡◌, ℕ, zero, suc, Bool, true, Option, Some, None, refl, sym, ap, ap₂, ◌∙◌, subst as transport, nat_eq}
use Rattle.std.proofs.lemmas.Bool.{eqb-true, eq-eqb}
use Rattle.std.proofs.lemmas.Option.{same_Some}
use Rattle.ld_trees.specs.Term.{◌▹◌, Term, Sort, Srt, Var, App, Lam, Pi, Head, Terms, Con, none, count}
use Rattle.ld_trees.specs.Substitution.{subst_all, subst, rename, lift_name, lift, instantiate, renames, substs}
use Rattle.ld_trees.proofs.SubstitutionLaws.{subst_of_rename, subst_instantiate, lift_of_name}
use Rattle.ld_rules.specs.Environment.{Env, Item, item_of}
use Rattle.ld_trees.specs.Scoping.{Scoped}
use Rattle.ld_rules.proofs.ScopedTerms.{rename_of_arguments, renames_count, subst_of_arguments, substs_count}
use Rattle.ld_rules.proofs.ScopedJudgements.{EnvironmentScoped}

mutual
  -- a parallel step
  pub data Parallel (Δ : Env) : Term → Term → Type 0 where
    par_sort : {s : Sort} → Parallel Δ (Srt s) (Srt s)
    par_var : {i : ℕ} → Parallel Δ (Var i) (Var i)
    par_app : {f g a b : Term} → Parallel Δ f g → Parallel Δ a b → Parallel Δ (App f a) (App g b)
    par_lam : {f g a b : Term} → Parallel Δ f g → Parallel Δ a b → Parallel Δ (Lam f a) (Lam g b)
    par_pi : {f g a b : Term} → Parallel Δ f g → Parallel Δ a b → Parallel Δ (Pi f a) (Pi g b)
    par_con : {h : Head} {us vs : Terms} → AllParallel Δ us vs → Parallel Δ (Con h us) (Con h vs)
    par_beta : {A M M' N N' : Term} → Parallel Δ M M' → Parallel Δ N N' → Parallel Δ (App (Lam A M) N) (subst_all (none ▹ N') M')
    par_delta : {h : Head} {us vs : Terms} (d : Item) (M : Term) → item_of h Δ ≡ Some d → d.body ≡ Some M → count us ≡ count d.params → AllParallel Δ us vs → Parallel Δ (Con h us) (subst_all vs M)

  -- one of each of some terms
  pub data AllParallel (Δ : Env) : Terms → Terms → Type 0 where
    par_none : AllParallel Δ none none
    par_more : {us vs : Terms} {u v : Term} → AllParallel Δ us vs → Parallel Δ u v → AllParallel Δ (us ▹ u) (vs ▹ v)

pub pars_count : {Δ : Env} {us vs : Terms} → AllParallel Δ us vs → count us ≡ count vs
pars_count par_none = refl
pars_count (par_more p q) = ap suc (pars_count p)

mutual
  pub par_itself : (Δ : Env) (t : Term) → Parallel Δ t t
  par_itself Δ (Srt s) = par_sort
  par_itself Δ (Var i) = par_var
  par_itself Δ (App f a) = par_app (par_itself Δ f) (par_itself Δ a)
  par_itself Δ (Lam f a) = par_lam (par_itself Δ f) (par_itself Δ a)
  par_itself Δ (Pi f a) = par_pi (par_itself Δ f) (par_itself Δ a)
  par_itself Δ (Con h us) = par_con (pars_itself Δ us)

  pub pars_itself : (Δ : Env) (us : Terms) → AllParallel Δ us us
  pars_itself Δ none = par_none
  pars_itself Δ (us ▹ u) = par_more (pars_itself Δ us) (par_itself Δ u)

-- an argument put in and renamed
pub rename_last : (r : ℕ → ℕ) (u t : Term) → rename r (subst_all (none ▹ u) t) ≡ subst_all (none ▹ rename r u) (rename (lift_name r) t)
rename_last r u t =
    let s : ℕ → Term = λ i. Var (r i) in
    subst_of_rename r (subst_all (none ▹ u) t) ∙ subst_instantiate s u t ∙ ap₂ (λ x y. subst_all (none ▹ x) y) (sym (subst_of_rename r u)) (sym (subst_of_rename (lift_name r) t ∙ ap (λ q. subst q t) (lift_of_name r)))

module _ (Δ : Env) (ok : EnvironmentScoped Δ) where
  body_scoped : (h : Head) (us : Terms) (d : Item) (M : Term) → item_of h Δ ≡ Some d → d.body ≡ Some M → count us ≡ count d.params → Scoped (count us) M
  body_scoped h us d M p e n = transport (λ k. Scoped k M) (sym n) ((ok h d p).body M e)

  mutual
    par_rename : {a b : Term} → Parallel Δ a b → (r : ℕ → ℕ) → Parallel Δ (rename r a) (rename r b)
    par_rename par_sort r = par_sort
    par_rename par_var r = par_var
    par_rename (par_app p q) r = par_app (par_rename p r) (par_rename q r)
    par_rename (par_lam p q) r = par_lam (par_rename p r) (par_rename q (lift_name r))
    par_rename (par_pi p q) r = par_pi (par_rename p r) (par_rename q (lift_name r))
    par_rename (par_con p) r = par_con (pars_rename p r)
    par_rename (par_beta {A = A} {M = M} {M' = M'} {N = N} {N' = N'} p q) r =
        transport (λ t. Parallel Δ (App (Lam (rename r A) (rename (lift_name r) M)) (rename r N)) t) (sym (rename_last r N' M')) (par_beta (par_rename p (lift_name r)) (par_rename q r))
    par_rename (par_delta {h = h} {us = us} {vs = vs} d M p e n q) r =
        transport (λ t. Parallel Δ (Con h (renames r us)) t) (sym (rename_of_arguments r vs M (body_scoped _ vs d M p e (sym (pars_count q) ∙ n)))) (par_delta d M p e (renames_count us r ∙ n) (pars_rename q r))

    pars_rename : {us vs : Terms} → AllParallel Δ us vs → (r : ℕ → ℕ) → AllParallel Δ (renames r us) (renames r vs)
    pars_rename par_none r = par_none
    pars_rename (par_more p q) r = par_more (pars_rename p r) (par_rename q r)

  par_lift : (s z : ℕ → Term) → ((i : ℕ) → Parallel Δ (s i) (z i)) → (i : ℕ) → Parallel Δ (lift s i) (lift z i)
  par_lift s z h zero = par_var
  par_lift s z h (suc i) = par_rename (h i) suc

  mutual
    pub par_substitute : {a b : Term} → Parallel Δ a b → (s z : ℕ → Term) → ((i : ℕ) → Parallel Δ (s i) (z i)) → Parallel Δ (subst s a) (subst z b)
    par_substitute par_sort s z h = par_sort
    par_substitute (par_var {i = i}) s z h = h i
    par_substitute (par_app p q) s z h = par_app (par_substitute p s z h) (par_substitute q s z h)
    par_substitute (par_lam p q) s z h = par_lam (par_substitute p s z h) (par_substitute q (lift s) (lift z) (par_lift s z h))
    par_substitute (par_pi p q) s z h = par_pi (par_substitute p s z h) (par_substitute q (lift s) (lift z) (par_lift s z h))
    par_substitute (par_con p) s z h = par_con (pars_substitute p s z h)
    par_substitute (par_beta {A = A} {M = M} {M' = M'} {N = N} {N' = N'} p q) s z h =
        transport (λ t. Parallel Δ (App (Lam (subst s A) (subst (lift s) M)) (subst s N)) t) (sym (subst_instantiate z N' M')) (par_beta (par_substitute p (lift s) (lift z) (par_lift s z h)) (par_substitute q s z h))
    par_substitute (par_delta {h = c} {us = us} {vs = vs} d M p e n q) s z h =
        transport (λ t. Parallel Δ (Con c (substs s us)) t) (sym (subst_of_arguments z vs M (body_scoped _ vs d M p e (sym (pars_count q) ∙ n)))) (par_delta d M p e (substs_count us s ∙ n) (pars_substitute q s z h))

    pub pars_substitute : {us vs : Terms} → AllParallel Δ us vs → (s z : ℕ → Term) → ((i : ℕ) → Parallel Δ (s i) (z i)) → AllParallel Δ (substs s us) (substs z vs)
    pars_substitute par_none s z h = par_none
    pars_substitute (par_more p q) s z h = par_more (pars_substitute p s z h) (par_substitute q s z h)

  par_instantiate : {us vs : Terms} → AllParallel Δ us vs → (i : ℕ) → Parallel Δ (instantiate us i) (instantiate vs i)
  par_instantiate par_none i = par_var
  par_instantiate (par_more p q) zero = q
  par_instantiate (par_more p q) (suc i) = par_instantiate p i

  pub par_arguments : {us vs : Terms} {a b : Term} → Parallel Δ a b → AllParallel Δ us vs → Parallel Δ (subst_all us a) (subst_all vs b)
  par_arguments {us} {vs} p q = par_substitute p (instantiate us) (instantiate vs) (par_instantiate q)

-- ---- the complete development: all redexes of a term at once

abbrev body_if : Bool → Option Term → Terms → Option Term
body_if true (Some M) us = Some (subst_all us M)
body_if _ _ us = None

-- the body of an item with the arguments put in, where it has one and they are as many as its parameters
abbrev unfolding_of : Option Item → Terms → Option Term
unfolding_of None us = None
unfolding_of (Some d) us = body_if (nat_eq (count us) (count d.params)) d.body us

abbrev app_developed : Term → Term → Term → Term
app_developed (Lam A M) (Lam A' M') a = subst_all (none ▹ a) M'
app_developed _ f a = App f a

abbrev or_con : Head → Terms → Option Term → Term
or_con h us (Some t) = t
or_con h us None = Con h us

abbrev mutual
  developed : Env → Term → Term
  developed Δ (Srt s) = Srt s
  developed Δ (Var i) = Var i
  developed Δ (App f a) = app_developed f (developed Δ f) (developed Δ a)
  developed Δ (Lam A M) = Lam (developed Δ A) (developed Δ M)
  developed Δ (Pi A M) = Pi (developed Δ A) (developed Δ M)
  developed Δ (Con h us) = or_con h (all_developed Δ us) (unfolding_of (item_of h Δ) (all_developed Δ us))

  all_developed : Env → Terms → Terms
  all_developed Δ none = none
  all_developed Δ (us ▹ u) = all_developed Δ us ▹ developed Δ u

-- where an item unfolds
record Unfolds (Δ : Env) (h : Head) (us : Terms) (t : Term) : Type 0 where
  item : Item
  term : Term
  found : item_of h Δ ≡ Some item
  body : item.body ≡ Some term
  counts : count us ≡ count item.params
  is : subst_all us term ≡ t

unfolds_if : (Δ : Env) (h : Head) (us : Terms) (t : Term) (d : Item) (b : Bool) (o : Option Term) → item_of h Δ ≡ Some d → nat_eq (count us) (count d.params) ≡ b → d.body ≡ o → body_if b o us ≡ Some t → Unfolds Δ h us t
unfolds_if Δ h us t d true (Some M) p n e q = record { item = d; term = M; found = p; body = e; counts = eqb-true _ _ n; is = same_Some _ _ q }
unfolds_if Δ h us t d _ _ p n e q = absurd cc

unfolds : (Δ : Env) (h : Head) (us : Terms) (t : Term) (o : Option Item) → item_of h Δ ≡ o → unfolding_of o us ≡ Some t → Unfolds Δ h us t
unfolds Δ h us t None p q = absurd cc
unfolds Δ h us t (Some d) p q = unfolds_if Δ h us t d _ _ p refl refl q

does_unfold : (Δ : Env) (h : Head) (us : Terms) (d : Item) (M : Term) → item_of h Δ ≡ Some d → d.body ≡ Some M → count us ≡ count d.params → unfolding_of (item_of h Δ) us ≡ Some (subst_all us M)
does_unfold Δ h us d M p e n = ap (λ o. unfolding_of o us) p ∙ ap₂ (λ b o. body_if b o us) (eq-eqb _ _ n) e

devs_count : (Δ : Env) (us : Terms) → count (all_developed Δ us) ≡ count us
devs_count Δ none = refl
devs_count Δ (us ▹ u) = ap suc (devs_count Δ us)

-- the body of an abstraction under a parallel step
abbrev LamBodies : Env → Term → Term → Type 0
LamBodies Δ (Lam A M) (Lam B N) = Parallel Δ M N
LamBodies Δ _ _ = Unit {0}

bodies : {Δ : Env} {a b : Term} → Parallel Δ a b → LamBodies Δ a b
bodies par_sort = tt
bodies par_var = tt
bodies (par_app p q) = tt
bodies (par_lam p q) = q
bodies (par_pi p q) = tt
bodies (par_con p) = tt
bodies (par_beta p q) = tt
bodies (par_delta d M p e n q) = tt

module _ (Δ : Env) (ok : EnvironmentScoped Δ) where
  app_dev : (f g a b : Term) → Parallel Δ f g → Parallel Δ g (developed Δ f) → Parallel Δ b (developed Δ a) → Parallel Δ (App g b) (app_developed f (developed Δ f) (developed Δ a))
  app_dev (Lam A M) g a b (par_lam p q) h k = par_beta (bodies h) k
  app_dev (Srt s) g a b p h k = par_app h k
  app_dev (Var s) g a b p h k = par_app h k
  app_dev (Pi s t) g a b p h k = par_app h k
  app_dev (App s t) g a b p h k = go (app_developed s (developed Δ s) (developed Δ t)) h
    where
      go : (x : Term) → Parallel Δ g x → Parallel Δ (App g b) (App x (developed Δ a))
      go x h = par_app h k
  app_dev (Con c us) g a b p h k = par_app h k

  con_dev : (h : Head) (us vs : Terms) (o : Option Term) → count vs ≡ count us → AllParallel Δ vs (all_developed Δ us) → unfolding_of (item_of h Δ) (all_developed Δ us) ≡ o → Parallel Δ (Con h vs) (or_con h (all_developed Δ us) o)
  con_dev h us vs None n p e = par_con p
  con_dev h us vs (Some t) n p e =
      let u = unfolds Δ h (all_developed Δ us) t (item_of h Δ) refl e in
      transport (Parallel Δ (Con h vs)) u.is (par_delta u.item u.term u.found u.body (n ∙ sym (devs_count Δ us) ∙ u.counts) p)

  mutual
    triangle : {a b : Term} → Parallel Δ a b → Parallel Δ b (developed Δ a)
    triangle par_sort = par_sort
    triangle par_var = par_var
    triangle (par_app {f = f} {g = g} {a = a} {b = b} p q) = app_dev f g a b p (triangle p) (triangle q)
    triangle (par_lam p q) = par_lam (triangle p) (triangle q)
    triangle (par_pi p q) = par_pi (triangle p) (triangle q)
    triangle (par_con {h = h} {us = us} {vs = vs} p) = con_dev h us vs _ (sym (pars_count p)) (triangles p) refl
    triangle (par_beta p q) = par_arguments Δ ok (triangle p) (par_more par_none (triangle q))
    triangle (par_delta {h = h} {us = us} {vs = vs} d M p e n q) =
        transport (Parallel Δ (subst_all vs M)) (ap (or_con h (all_developed Δ us)) (sym (does_unfold Δ h (all_developed Δ us) d M p e (devs_count Δ us ∙ n)))) (par_arguments Δ ok (par_itself Δ M) (triangles q))

    triangles : {us vs : Terms} → AllParallel Δ us vs → AllParallel Δ vs (all_developed Δ us)
    triangles par_none = par_none
    triangles (par_more p q) = par_more (triangles p) (triangle q)

  -- many parallel step_and
  pub data ManyParallel : Term → Term → Type 0 where
    finished : {a : Term} → ManyParallel a a
    and_then : {a b c : Term} → Parallel Δ a b → ManyParallel b c → ManyParallel a c

  pub many_then : {a b c : Term} → ManyParallel a b → ManyParallel b c → ManyParallel a c
  many_then finished q = q
  many_then (and_then p r) q = and_then p (many_then r q)

  strip : {a b c : Term} → ManyParallel a c → Parallel Δ a b → (d : Term) × ManyParallel b d × Parallel Δ c d
  strip {a} {b} finished q = (b, finished, q)
  strip {a} {b} (and_then p r) q = let t = strip r (triangle p) in (t.0, and_then (triangle q) t.1, t.2)

  pub confluent : {a b c : Term} → ManyParallel a b → ManyParallel a c → (d : Term) × ManyParallel b d × ManyParallel c d
  confluent {c = c} finished q = (c, q, finished)
  confluent (and_then p r) q = let t = strip q p in let u = confluent r t.1 in (u.0, u.1, and_then t.2 u.2)
