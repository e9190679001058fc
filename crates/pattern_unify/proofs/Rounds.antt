-- The rounds of solving and pruning, and settling, as their calls take them.
use Rattle.std.proofs.Common.{◌≡◌, ℕ, zero, suc, ◌-◌, ◌≤◌, Bool, true, false, List, [], reverse, length, Some, None, is_some, nat_eq, Result, Ok, Err, refl, sym, ap, ◌∙◌, arith, subst, eq-eqb, eqb-true}
use Rattle.meta_laws.proofs.Lists.{is_false}
use Rattle.std.specs.Prelude.{IsErrAnd, slice_get}
use Rattle.ld_trees.specs.Term.{Term, Meta, Terms}
use Rattle.ld_trees.specs.Substitution.{rename}
use Rattle.ld_rules.specs.Environment.{Env}
use Rattle.ld_terms.specs.declared.globals.Decl.{Decl}
use Rattle.kernel_check.specs.Inference.{infer}
use Rattle.meta_context.specs.Plain.{rules_ctx}
use Rattle.unification.specs.Steps.{Outcome, Gave, Refused, OutOfFuel, go_on, pure, refuse, ◌>>=◌, ◌>>◌, choose, demand, spend_each}
use Rattle.unification.specs.Refusals.{Refusal, Scope, Cycle, Step, kernel_step, Plain}
use Rattle.unification.specs.Metavariables.{reach, declared, assigned, settled_by}
use Rattle.unification.specs.Patterns.{holds_only, place_of}
use Rattle.unification.specs.Pruning.{Spot, Nowhere, Outside, Inside, Free, first_bad, is_kept, kept_entries, kept_context, kept_variables, thin, occurrences, replace, Goes, pruned, pruned_by}
use Rattle.unification.specs.Solving.{solve, solve_by}
use Rattle.unification.specs.Unification.{unify, settle}
use Rattle.unification.proofs.FuelLaws.{solving_is}
use Rattle.unification.proofs.Occurring.{IsCounted, inside_occurs}
use Rattle.pattern_unify.specs.declared.fault.UnifyFault.{UnifyFault}
use Rattle.pattern_unify.specs.declared.fault.UnifyFault.TheVariants as fault
use Rattle.pattern_unify.specs.Answers.{Shows}
use Rattle.pattern_unify.specs.Tries.{GoesOn, shrunk}
use Rattle.pattern_unify.specs.Walks.{inverse, IsSpent}

-- ---- solving

module _ (Δ : Env) (d m : ℕ) (vs : Terms) (Σ : Plain) (t : Term) where
  -- where the first bad variable stands
  abbrev pub spot : Spot
  spot = first_bad Σ (λ i. is_some (place_of vs i)) 0 Free t

  abbrev pub on : Goes
  on = solve Δ (unify Δ) d m vs

  by_spot : (n : ℕ) (s : Spot) → spot ≡ s → solve Δ (unify Δ) d m vs Σ t n ≡ solve_by Δ (unify Δ) d m vs on Σ t s n
  by_spot n s e = solving_is Δ d m vs Σ t n ∙ ap (λ s. solve_by Δ (unify Δ) d m vs on Σ t s n) e

  pub outright : (n : ℕ) → spot ≡ Nowhere → solve Δ (unify Δ) d m vs Σ t n ≡ settle Δ Σ m (inverse vs t) n
  outright n e = by_spot n Nowhere e

  pub outside : (n i : ℕ) → spot ≡ Outside i → solve Δ (unify Δ) d m vs Σ t n ≡ Refused (Scope m (d - suc i)) n
  outside n i e = by_spot n (Outside i) e

  pub inside : (n i p : ℕ) (marks : List Bool) → spot ≡ Inside i p marks → solve Δ (unify Δ) d m vs Σ t n ≡ solve_by Δ (unify Δ) d m vs on Σ t (Inside i p marks) n
  inside n i p marks e = by_spot n (Inside i p marks) e

  pub occurs_inside : (i p : ℕ) (marks : List Bool) → spot ≡ Inside i p marks → 1 ≤ occurrences p t
  occurs_inside i p marks e = subst (IsCounted (λ p. occurrences p t)) e (inside_occurs Σ (λ i. is_some (place_of vs i)) t)

  module _ (n i p : ℕ) (marks : List Bool) where
    pub itself : p ≡ m → solve_by Δ (unify Δ) d m vs on Σ t (Inside i p marks) n ≡ Refused (Scope m (d - suc i)) n
    itself e = ap (λ b. choose b (refuse (Scope m (d - suc i))) (pruned Δ (unify Δ) Σ (Scope m (d - suc i)) p marks t on) n) (eq-eqb p m e)

    pub another : ¬ (p ≡ m) → solve_by Δ (unify Δ) d m vs on Σ t (Inside i p marks) n ≡ pruned Δ (unify Δ) Σ (Scope m (d - suc i)) p marks t on n
    another e = ap (λ b. choose b (refuse (Scope m (d - suc i))) (pruned Δ (unify Δ) Σ (Scope m (d - suc i)) p marks t on) n) (is_false (nat_eq p m) (λ q. e (eqb-true p m q)))

-- ---- pruning

regroup : {B C D : Type 0} (o : Outcome Refusal B) (v : C) (g : B × C → Step D) → go_on (go_on o (λ y. pure (y, v))) g ≡ go_on o (λ y. g (y, v))
regroup (Gave y k) v g = refl
regroup (Refused r k) v g = refl
regroup OutOfFuel v g = refl

regroup_two : {A B C D : Type 0} (o : Outcome Refusal A) (f : A → Step B) (v : C) (g : B × C → Step D) → go_on (go_on o (λ x k. go_on (f x k) (λ y. pure (y, v)))) g ≡ go_on o (λ x k. go_on (f x k) (λ y. g (y, v)))
regroup_two (Gave x k) f v g = regroup (f x k) v g
regroup_two (Refused r k) f v g = refl
regroup_two OutOfFuel f v g = refl

module _ (Δ : Env) (Σ : Plain) (r : Refusal) (p : ℕ) (marks : List Bool) (t : Term) where
  abbrev pub prunes : Goes → Step Plain
  prunes again = pruned Δ (unify Δ) Σ r p marks t again

  pub no_goal : (n : ℕ) (again : Goes) → slice_get Σ p ≡ None → prunes again n ≡ Refused r n
  no_goal n again e = ap (λ o. pruned_by Δ (unify Δ) Σ r p marks t again o n) e

  module _ (n : ℕ) (x : Decl Term) (found : slice_get Σ p ≡ Some x) where
    abbrev pub flags : List Bool
    flags = kept_entries marks x.ctx []

    -- what follows where the type holds only entries that are kept
    abbrev pub prune_on : Goes → Plain × Term → Step Plain
    prune_on again w = settle Δ w.0 p w.1 >>= (λ after. spend_each (occurrences p t) >> again after (replace p w.1 t))

    abbrev inner : Goes → Step Plain
    inner again = kept_context Δ Σ flags x.ctx [] [] >>= (λ Γ. declared Δ Σ Γ (rename (thin (reverse flags)) x.ty) >>= (λ more. prune_on again (more, Meta (length Σ) (kept_variables (reverse flags) 0))))

    by_demand : (again : Goes) (b : Bool) → holds_only (is_kept (reverse flags)) 0 x.ty ≡ b → prunes again n ≡ go_on (demand b r n) (λ _. inner again)
    by_demand again b e = ap (λ o. pruned_by Δ (unify Δ) Σ r p marks t again o n) found ∙ ap (λ b. go_on (demand b r n) (λ _. inner again)) e

    pub type_holds : (again : Goes) → holds_only (is_kept (reverse flags)) 0 x.ty ≡ false → prunes again n ≡ Refused r n
    type_holds again e = by_demand again false e

    pub prunes_on : (again : Goes) → holds_only (is_kept (reverse flags)) 0 x.ty ≡ true → prunes again n ≡ go_on (shrunk Δ Σ flags x.ctx x.ty n) (prune_on again)
    prunes_on again e = by_demand again true e
        ∙ sym (regroup_two (kept_context Δ Σ flags x.ctx [] [] n) (λ Γ. declared Δ Σ Γ (rename (thin (reverse flags)) x.ty)) (Meta (length Σ) (kept_variables (reverse flags) 0)) (prune_on again))

-- a fault of pruning, and want of memory
pub goes_wrong : {H : Type 0} (holds : H → Type 0) (means : H → Term) (run : Goes → Outcome Refusal Plain) (left : ℕ) (q : Result (List (Decl H) × H) (UnifyFault H)) (e : UnifyFault H)
    → IsErrAnd q (λ x. x ≡ e) → ((again : Goes) → Shows holds means (run again) left e) → GoesOn holds means run left q
goes_wrong holds means run left (Ok w) e p h = absurd p
goes_wrong holds means run left (Err x) e p h = λ again. subst (Shows holds means (run again) left) (sym p) (h again)

pub goes_out : {H : Type 0} (holds : H → Type 0) (means : H → Term) (run : Goes → Outcome Refusal Plain) (left : ℕ) (q : Result (List (Decl H) × H) (UnifyFault H))
    → IsErrAnd q (λ x. x ≡ fault.Memory) → GoesOn holds means run left q
goes_out holds means run left q p = goes_wrong holds means run left q fault.Memory p (λ again. tt)

-- units that are spent
pub spent_each : (k before after : ℕ) → IsSpent k before after true → spend_each {R = Refusal} k before ≡ Gave tt after
spent_each zero before after e = ap (λ n. Gave tt n) (let q : before ≡ after = omega (arith, e) in q)
spent_each (suc k) zero after e = absurd (omega (arith, e))
spent_each (suc k) (suc before) after e = spent_each k before after (omega (arith, e))

pub too_few : (k before after : ℕ) → IsSpent k before after false → spend_each {R = Refusal} k before ≡ OutOfFuel
too_few zero before after e = absurd (omega (arith, e.0))
too_few (suc k) zero after e = refl
too_few (suc k) (suc before) after e = too_few k before after ((let l = e.0 in omega arith), e.1)

-- ---- settling

module _ (Δ : Env) (Σ : Plain) (m : ℕ) (v : Term) (n : ℕ) where
  pub settle_missing : slice_get Σ m ≡ None → settle Δ Σ m v n ≡ Refused (Cycle m) n
  settle_missing e = ap (λ o. settled_by Δ (unify Δ) Σ m v o n) e

  -- what follows the type of the value
  abbrev pub settle_on : Decl Term → Term → Step Plain
  settle_on d found = unify Δ Σ (length d.ctx) found d.ty >>= (λ after. assigned after m v)

  pub settle_found : (d : Decl Term) → slice_get Σ m ≡ Some d → settle Δ Σ m v n ≡ go_on (kernel_step (infer (reach Δ Σ) (rules_ctx d.ctx) v) n) (settle_on d)
  settle_found d e = ap (λ o. settled_by Δ (unify Δ) Σ m v o n) e
