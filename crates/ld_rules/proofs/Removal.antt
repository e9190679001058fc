-- Removal of definitions: a derivation holds with each use of them replaced by a term of its type.
use Rattle.std.proofs.Common.{◌≡◌, ℕ, zero, suc, ◌∷◌, ◌⊎◌, inl, inr, Option, Some, None, refl, sym, ap, ap₂, ◌∙◌, subst as transport, subst₂ as transport₂}
use mathlib.Core.Path.{fun_ext}
use Rattle.ld_trees.specs.Term.{Head, Term, Srt, Star, Square, Var, App, Lam, Pi, Con, Terms, none, ◌▹◌, count}
use Rattle.ld_trees.specs.Substitution.{lift_name, rename, renames, lift, subst, substs, instantiate, subst_all}
use Rattle.ld_rules.specs.Environment.{Ctx, Env, Item, item_of}
use Rattle.ld_rules.specs.Reduction.{Step, beta, delta, in_function, in_argument, in_lam_type, in_lam_body, in_domain, in_codomain, in_arguments, Steps, in_last, in_earlier, Equal, by_step, reflexive, symmetric, transitive, EqualAll, no_terms, one_more}
use Rattle.ld_rules.specs.Derivation.{Derives, sort, var, weak, form, appl, abst, conv, def, def_prim, inst, Fits, no_argument, argument}
use Rattle.ld_trees.specs.Scoping.{Scoped}
use Rattle.ld_rules.specs.Expansion.{Bodies, BodiesScoped, expand, expand_all, expanded, Stays, Goes, Expands}
use Rattle.ld_rules.proofs.ScopedTerms.{subst_of_arguments, substs_count, renames_count, rename_of_arguments}
use Rattle.ld_rules.proofs.ScopedJudgements.{EnvironmentScoped, in_scope, all_in_scope}
use Rattle.ld_rules.proofs.SubstitutionLemma.{found_below, equal_weaken}
use Rattle.ld_rules.proofs.Congruence.{equal_app, equal_lam, equal_pi, equal_con, all_itself}
use Rattle.ld_rules.proofs.Entries.{substitute_arguments}

module _ (V : Bodies) where
  -- expansion goes through renaming and substitution
  pub expand_count : (us : Terms) → count (expand_all V us) ≡ count us
  expand_count none = refl
  expand_count (us ▹ u) = ap suc (expand_count us)

  module _ (sc : BodiesScoped V) where
    in_expanded : (k : Head) (us : Terms) (B : Term) → V k (count us) ≡ Some B → Scoped (count (expand_all V us)) B
    in_expanded k us B e = transport (λ m. Scoped m B) (sym (expand_count us)) (sc k (count us) B e)

    con_rename : (r : ℕ → ℕ) (k : Head) (us : Terms) (o : Option Term) → ((B : Term) → o ≡ Some B → Scoped (count us) B) → expanded o k (renames r us) ≡ rename r (expanded o k us)
    con_rename r k us (Some B) c = sym (rename_of_arguments r us B (c B refl))
    con_rename r k us None c = refl

    mutual
      expand_rename : (t : Term) (r : ℕ → ℕ) → expand V (rename r t) ≡ rename r (expand V t)
      expand_rename (Srt s) r = refl
      expand_rename (Var i) r = refl
      expand_rename (App f a) r = ap₂ App (expand_rename f r) (expand_rename a r)
      expand_rename (Lam f a) r = ap₂ Lam (expand_rename f r) (expand_rename a (lift_name r))
      expand_rename (Pi f a) r = ap₂ Pi (expand_rename f r) (expand_rename a (lift_name r))
      expand_rename (Con k us) r =
          ap₂ (λ m xs. expanded (V k m) k xs) (renames_count us r) (expand_renames us r) ∙ con_rename r k (expand_all V us) (V k (count us)) (in_expanded k us)

      expand_renames : (us : Terms) (r : ℕ → ℕ) → expand_all V (renames r us) ≡ renames r (expand_all V us)
      expand_renames none r = refl
      expand_renames (us ▹ u) r = ap₂ ◌▹◌ (expand_renames us r) (expand_rename u r)

    con_subst : (s : ℕ → Term) (k : Head) (us : Terms) (o : Option Term) → ((B : Term) → o ≡ Some B → Scoped (count us) B) → expanded o k (substs s us) ≡ subst s (expanded o k us)
    con_subst s k us (Some B) c = sym (subst_of_arguments s us B (c B refl))
    con_subst s k us None c = refl

    expand_lift : (s : ℕ → Term) → (λ i. expand V (lift s i)) ≡ lift (λ i. expand V (s i))
    expand_lift s = fun_ext (elim [ zero ↦ refl | suc i ↦ expand_rename (s i) suc ])

    mutual
      expand_subst : (t : Term) (s : ℕ → Term) → expand V (subst s t) ≡ subst (λ i. expand V (s i)) (expand V t)
      expand_subst (Srt z) s = refl
      expand_subst (Var i) s = refl
      expand_subst (App f a) s = ap₂ App (expand_subst f s) (expand_subst a s)
      expand_subst (Lam f a) s = ap₂ Lam (expand_subst f s) (expand_subst a (lift s) ∙ ap (λ q. subst q (expand V a)) (expand_lift s))
      expand_subst (Pi f a) s = ap₂ Pi (expand_subst f s) (expand_subst a (lift s) ∙ ap (λ q. subst q (expand V a)) (expand_lift s))
      expand_subst (Con k us) s =
          ap₂ (λ m xs. expanded (V k m) k xs) (substs_count us s) (expand_substs us s) ∙ con_subst (λ i. expand V (s i)) k (expand_all V us) (V k (count us)) (in_expanded k us)

      expand_substs : (us : Terms) (s : ℕ → Term) → expand_all V (substs s us) ≡ substs (λ i. expand V (s i)) (expand_all V us)
      expand_substs none s = refl
      expand_substs (us ▹ u) s = ap₂ ◌▹◌ (expand_substs us s) (expand_subst u s)

    expand_argument : (us : Terms) (i : ℕ) → expand V (instantiate us i) ≡ instantiate (expand_all V us) i
    expand_argument none i = refl
    expand_argument (us ▹ u) zero = refl
    expand_argument (us ▹ u) (suc i) = expand_argument us i

    expand_arguments : (us : Terms) (t : Term) → expand V (subst_all us t) ≡ subst_all (expand_all V us) (expand V t)
    expand_arguments us t = expand_subst t (instantiate us) ∙ ap (λ q. subst q (expand V t)) (fun_ext (expand_argument us))

    module _ (Δ : Env) (ok : Derives Δ none Star Square) where
      scoped_items : EnvironmentScoped Δ
      scoped_items = (in_scope ok).env

      -- equal terms put in for the variables
      equal_lift : (s z : ℕ → Term) → ((i : ℕ) → Equal Δ (s i) (z i)) → (i : ℕ) → Equal Δ (lift s i) (lift z i)
      equal_lift s z e zero = reflexive
      equal_lift s z e (suc i) = equal_weaken scoped_items (e i)

      mutual
        equal_in : (t : Term) (s z : ℕ → Term) → ((i : ℕ) → Equal Δ (s i) (z i)) → Equal Δ (subst s t) (subst z t)
        equal_in (Srt c) s z e = reflexive
        equal_in (Var i) s z e = e i
        equal_in (App f a) s z e = equal_app Δ _ _ _ _ (equal_in f s z e) (equal_in a s z e)
        equal_in (Lam f a) s z e = equal_lam Δ _ _ _ _ (equal_in f s z e) (equal_in a (lift s) (lift z) (equal_lift s z e))
        equal_in (Pi f a) s z e = equal_pi Δ _ _ _ _ (equal_in f s z e) (equal_in a (lift s) (lift z) (equal_lift s z e))
        equal_in (Con k us) s z e = equal_con Δ k _ _ (equal_ins us s z e)

        equal_ins : (us : Terms) (s z : ℕ → Term) → ((i : ℕ) → Equal Δ (s i) (z i)) → EqualAll Δ (substs s us) (substs z us)
        equal_ins none s z e = no_terms
        equal_ins (us ▹ u) s z e = one_more (equal_ins us s z e) (equal_in u s z e)

      equal_at : {us vs : Terms} → EqualAll Δ us vs → (i : ℕ) → Equal Δ (instantiate us i) (instantiate vs i)
      equal_at no_terms i = reflexive
      equal_at (one_more e p) zero = p
      equal_at (one_more e p) (suc i) = equal_at e i

      con_equal : (o : Option Term) (k : Head) (us vs : Terms) → EqualAll Δ us vs → Equal Δ (expanded o k us) (expanded o k vs)
      con_equal (Some B) k us vs e = equal_in B (instantiate us) (instantiate vs) (equal_at e)
      con_equal None k us vs e = equal_con Δ k us vs e

      -- what becomes of a constant
      kept_con : (k : Head) (us : Terms) → V k (count us) ≡ None → expand V (Con k us) ≡ Con k (expand_all V us)
      kept_con k us e = ap (λ o. expanded o k (expand_all V us)) e

      gone_con : (k : Head) (us : Terms) (n : ℕ) (B : Term) → count us ≡ n → V k n ≡ Some B → expand V (Con k us) ≡ subst_all (expand_all V us) B
      gone_con k us n B c e = ap (λ o. expanded o k (expand_all V us)) (ap (λ m. V k m) c ∙ e)

      -- a step becomes an equality
      module _ (E : Env) (be : Expands V E Δ) where
        delta_expanded : (k : Head) (us : Terms) (c : Item) (M : Term) → c.body ≡ Some M → count us ≡ count c.params → Stays V Δ k c ⊎ Goes V Δ k c → Equal Δ (expand V (Con k us)) (expand V (subst_all us M))
        delta_expanded k us c M e m (inl w) =
            let s : Step Δ (Con k (expand_all V us)) (subst_all (expand_all V us) (expand V M)) = delta w.item (expand V M) w.found (w.body M e) (expand_count us ∙ m ∙ sym (expand_count c.params) ∙ ap count w.params) in
            transport₂ (Equal Δ) (sym (kept_con k us (w.other (count us)))) (sym (expand_arguments us M)) (by_step s)
        delta_expanded k us c M e m (inr w) =
            let b : expand V (subst_all us M) ≡ subst_all (expand_all V us) w.value = expand_arguments us M ∙ ap (subst_all (expand_all V us)) (w.body M e) in
            transport₂ (Equal Δ) (sym (gone_con k us (count c.params) w.value m w.is)) (sym b) reflexive

        steps_count : {us vs : Terms} → Steps E us vs → count us ≡ count vs
        steps_count (in_last e) = refl
        steps_count (in_earlier e) = ap suc (steps_count e)

        mutual
          step_expanded : {a b : Term} → Step E a b → Equal Δ (expand V a) (expand V b)
          step_expanded (beta {A = A} {M = M} {N = N}) = transport (Equal Δ (App (Lam (expand V A) (expand V M)) (expand V N))) (sym (expand_arguments (none ▹ N) M)) (by_step beta)
          step_expanded (delta {h = k} {us = us} d M p e m) = delta_expanded k us d M e m (be k d p)
          step_expanded (in_function e) = equal_app Δ _ _ _ _ (step_expanded e) reflexive
          step_expanded (in_argument e) = equal_app Δ _ _ _ _ reflexive (step_expanded e)
          step_expanded (in_lam_type e) = equal_lam Δ _ _ _ _ (step_expanded e) reflexive
          step_expanded (in_lam_body e) = equal_lam Δ _ _ _ _ reflexive (step_expanded e)
          step_expanded (in_domain e) = equal_pi Δ _ _ _ _ (step_expanded e) reflexive
          step_expanded (in_codomain e) = equal_pi Δ _ _ _ _ reflexive (step_expanded e)
          step_expanded (in_arguments {h = k} {us = us} {vs = vs} e) =
              transport (λ m. Equal Δ (expand V (Con k us)) (expanded (V k m) k (expand_all V vs))) (steps_count e) (con_equal (V k (count us)) k (expand_all V us) (expand_all V vs) (steps_expanded e))

          steps_expanded : {us vs : Terms} → Steps E us vs → EqualAll Δ (expand_all V us) (expand_all V vs)
          steps_expanded (in_last {us = us} e) = one_more (all_itself Δ (expand_all V us)) (step_expanded e)
          steps_expanded (in_earlier e) = one_more (steps_expanded e) reflexive

        equal_expanded : {a b : Term} → Equal E a b → Equal Δ (expand V a) (expand V b)
        equal_expanded (by_step e) = step_expanded e
        equal_expanded reflexive = reflexive
        equal_expanded (symmetric e) = symmetric (equal_expanded e)
        equal_expanded (transitive e f) = transitive (equal_expanded e) (equal_expanded f)

      expands_below : (d : Item) (E : Env) → item_of d.name E ≡ None → Expands V (d ∷ E) Δ → Expands V E Δ
      expands_below d E fresh be k c p = be k c (found_below d E fresh k c p)

      inst_expanded : {Γ : Ctx} (k : Head) (us : Terms) (d : Item) → Derives Δ Γ Star Square → Fits Δ Γ (expand_all V us) (expand_all V d.params) → count us ≡ count d.params → Stays V Δ k d ⊎ Goes V Δ k d → Derives Δ Γ (expand V (Con k us)) (expand V (subst_all us d.ty))
      inst_expanded {Γ} k us d l f m (inl w) =
          let t : expand V (subst_all us d.ty) ≡ subst_all (expand_all V us) w.item.ty = expand_arguments us d.ty ∙ ap (subst_all (expand_all V us)) w.ty in
          transport₂ (Derives Δ Γ) (sym (kept_con k us (w.other (count us)))) (sym t) (inst w.item l (transport (Fits Δ Γ (expand_all V us)) w.params f) w.found)
      inst_expanded {Γ} k us d l f m (inr w) =
          transport₂ (Derives Δ Γ) (sym (gone_con k us (count d.params) w.value m w.is)) (sym (expand_arguments us d.ty)) (substitute_arguments l w.derives f)

      mutual
        -- a derivation with each use of the removed items replaced
        pub removed : {E : Env} {Γ : Ctx} {M T : Term} → Derives E Γ M T → Expands V E Δ → Derives Δ (expand_all V Γ) (expand V M) (expand V T)
        removed sort be = ok
        removed {Γ = Γ} (var {Γ = G} {A = A} dA) be = transport (Derives Δ (expand_all V G ▹ expand V A) (Var 0)) (sym (expand_rename A suc)) (var (removed dA be))
        removed (weak {Γ = G} {M = M} {B = T} {C = C} dM dC) be =
            transport₂ (Derives Δ (expand_all V G ▹ expand V C)) (sym (expand_rename M suc)) (sym (expand_rename T suc)) (weak (removed dM be) (removed dC be))
        removed (form dA dB) be = form (removed dA be) (removed dB be)
        removed (appl {Γ = G} {M = M} {N = N} {B = C} dM dN) be =
            transport (Derives Δ (expand_all V G) (App (expand V M) (expand V N))) (sym (expand_arguments (none ▹ N) C)) (appl (removed dM be) (removed dN be))
        removed (abst dM dP) be = abst (removed dM be) (removed dP be)
        removed {E = E} (conv dM dB e) be = conv (removed dM be) (removed dB be) (equal_expanded E be e)
        removed (def {Δ = E} d dK e dM fresh) be = removed dK (expands_below d E fresh be)
        removed (def_prim {Δ = E} d dK e dN fresh) be = removed dK (expands_below d E fresh be)
        removed (inst {h = k} {us = us} d dS dU p) be = inst_expanded k us d (removed dS be) (removed_all dU be) (all_in_scope dU).alike (be k d p)

        pub removed_all : {E : Env} {Γ : Ctx} {us ps : Terms} → Fits E Γ us ps → Expands V E Δ → Fits Δ (expand_all V Γ) (expand_all V us) (expand_all V ps)
        removed_all no_argument be = no_argument
        removed_all {Γ = Γ} (argument {us = us} {u = u} {P = P} dU du) be =
            argument (removed_all dU be) (transport (Derives Δ (expand_all V Γ) (expand V u)) (expand_arguments us P) (removed du be))
