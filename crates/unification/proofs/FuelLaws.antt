-- The fuel law of unification, and unification and solving in terms of themselves.
use Rattle.std.proofs.Common.{◌≡◌, ℕ, zero, suc, ◌-◌, ◌≤◌, List, [], ◌∷◌, ◌++◌, Bool, true, false, not, ◌&&◌, length, slice_get, Option, Some, None, is_some, refl, ap, ◌∙◌, arith, nat_eq, nat_lt, reverse}
use Rattle.ld_trees.specs.Substitution.{rename}
use Rattle.ld_trees.specs.Term.{Term, Meta, Terms, none, ◌▹◌, same}
use Rattle.ld_rules.specs.Environment.{Ctx, Env}
use Rattle.ld_terms.specs.declared.globals.Local.{Local}
use Rattle.ld_terms.specs.declared.globals.Decl.{Decl}
use Rattle.meta_trees.specs.Dependencies.{depends}
use Rattle.conversion.specs.WeakHead.{whnf}
use Rattle.conversion.specs.Conversion.{alike, are_twins}
use Rattle.conversion.proofs.Heads.{lawful_whnf}
use Rattle.kernel_check.specs.Inference.{infer, infer_sort}
use Rattle.kernel_check.proofs.FuelLaw.{lawful_infer, lawful_infer_sort}
use Rattle.meta_context.specs.Declaring as plain
use Rattle.meta_context.specs.Limits.{is_full, is_too_deep}
use Rattle.meta_context.specs.Plain.{rules_ctx}
use Rattle.goal_state.specs.State.{rules_metas, is_open}
use Rattle.unification.specs.Steps.{OutOfFuel}
use Rattle.unification.specs.Refusals.{Refusal, Kernel, Mismatch, Scope, Cycle, TooDeep, TooManyMetas, kernel_step, Plain, Unifies}
use Rattle.unification.specs.Metavariables.{reach, assigned, sorted, extended, declared, settled_by, settled}
use Rattle.unification.specs.Patterns.{Side, Rigid, Flexible, Pattern, side, have_same_goal, holds_only, place_of}
use Rattle.unification.specs.Pruning.{Spot, Nowhere, Outside, Inside, Free, first_bad, is_kept, kept_entries, thin, kept_context, kept_variables, name_at, occurrences, replace, Goes, pruned_by}
use Rattle.unification.specs.Solving.{inverted, solve_by, solve_step, solve_deep, solve}
use Rattle.unification.specs.Unification.{Pair, part_pairs, unify_each, unify_parts, unify_sides, unify_reduced, unify_step, unify_deep, unify, settle}
use Rattle.unification.specs.Laws.{UnificationUnfolds, SolvingUnfolds, UnificationHasFuelLaw, SettlingHasFuelLaw}
use Rattle.unification.proofs.Words.{Law, law_pure, law_refuse, law_fuel, law_bind, law_then, law_spend, law_choose, law_demand, law_spend_each, law_or_else, law_called, Agree, agree, agreed, agree_same, agree_none, agree_spend, agree_choose, agree_bind, agree_then, agree_or_else, agree_spend_each, law_depth, fuel_law}
use Rattle.unification.proofs.Occurring.{IsCounted, inside_occurs}

law_whnf : (Δ : Env) (t : Term) → Law (kernel_step (whnf Δ t))
law_whnf Δ t = law_called Kernel _ (lawful_whnf Δ t)

law_infer : (Δ : Env) (Γ : Ctx) (t : Term) → Law (kernel_step (infer Δ Γ t))
law_infer Δ Γ t = law_called Kernel _ (lawful_infer Δ Γ t)

law_infer_sort : (Δ : Env) (Γ : Ctx) (t : Term) → Law (kernel_step (infer_sort Δ Γ t))
law_infer_sort Δ Γ t = law_called Kernel _ (lawful_infer_sort Δ Γ t)

law_assigned : (metas : Plain) (m : ℕ) (v : Term) → Law (assigned metas m v)
law_assigned metas m v = law_then (law_demand (is_open metas m && not (depends (rules_metas metas) (none ▹ v) m)) (Cycle m)) (law_then (law_demand (not (is_too_deep (none ▹ v))) (TooDeep m)) (law_pure (plain.assigned m v metas)))

module _ (Δ : Env) where
  law_sorted : (metas : Plain) (Γ : List (Local Term)) (A : Term) → Law (sorted Δ metas Γ A)
  law_sorted metas Γ A = law_then (law_infer_sort (reach Δ metas) (rules_ctx Γ) A) (law_pure tt)

  pub law_extended : (metas : Plain) (Γ : List (Local Term)) (x : List ℕ) (A : Term) → Law (extended Δ metas Γ x A)
  law_extended metas Γ x A = law_then (law_sorted metas Γ A) (law_pure (Γ ++ record { name = x; ty = A } ∷ []))

  pub law_declared : (metas : Plain) (Γ : List (Local Term)) (T : Term) → Law (declared Δ metas Γ T)
  law_declared metas Γ T = law_then (law_demand (not (is_full metas)) TooManyMetas) (law_then (law_demand (not (is_too_deep (rules_ctx Γ ▹ T))) (TooDeep (length metas))) (law_then (law_sorted metas Γ T) (law_pure (plain.declared Γ T metas))))

  law_kept_context : (metas : Plain) (ks : List Bool) (Γ : List (Local Term)) (before : List Bool) (kept : List (Local Term)) → Law (kept_context Δ metas ks Γ before kept)
  law_kept_context metas (true ∷ ks) (l ∷ Γ) before kept = law_bind (law_extended metas kept (name_at (length kept) l.name) (rename (thin before) l.ty)) (λ more. law_kept_context metas ks Γ (true ∷ before) more)
  law_kept_context metas (false ∷ ks) (l ∷ Γ) before kept = law_kept_context metas ks Γ (false ∷ before) kept
  law_kept_context metas (true ∷ ks) [] before kept = law_pure kept
  law_kept_context metas (false ∷ ks) [] before kept = law_pure kept
  law_kept_context metas [] Γ before kept = law_pure kept

-- ---- solving, over a call that unifies

module _ (Δ : Env) (f : Unifies) (lf : (metas : Plain) (d : ℕ) (a b : Term) → Law (f metas d a b)) where
  law_settled_by : (metas : Plain) (m : ℕ) (v : Term) (o : Option (Decl Term)) → Law (settled_by Δ f metas m v o)
  law_settled_by metas m v None = law_refuse _
  law_settled_by metas m v (Some d) = law_bind (law_infer (reach Δ metas) (rules_ctx d.ctx) v) (λ found. law_bind (lf metas (length d.ctx) found d.ty) (λ after. law_assigned after m v))

  pub law_settled : (metas : Plain) (m : ℕ) (v : Term) → Law (settled Δ f metas m v)
  law_settled metas m v = law_settled_by metas m v (slice_get metas m)

  law_pruned_by : (metas : Plain) (r : Refusal) (p : ℕ) (marks : List Bool) (t : Term) (again : Goes) → ((S : Plain) (u : Term) → Law (again S u)) → (o : Option (Decl Term)) → Law (pruned_by Δ f metas r p marks t again o)
  law_pruned_by metas r p marks t again h None = law_refuse r
  law_pruned_by metas r p marks t again h (Some d) =
      let flags = kept_entries marks d.ctx [] in
      let ks = reverse flags in
      let v = Meta (length metas) (kept_variables ks 0) in
      law_then (law_demand (holds_only (is_kept ks) 0 d.ty) r) (law_bind (law_kept_context Δ metas flags d.ctx [] []) (λ Γ. law_bind (law_declared Δ metas Γ (rename (thin ks) d.ty)) (λ more. law_bind (law_settled more p v) (λ after. law_then (law_spend_each (occurrences p t)) (h after (replace p v t))))))

  module _ (d m : ℕ) (vs : Terms) where
    law_solve_by : (again : Goes) → ((S : Plain) (u : Term) → Law (again S u)) → (metas : Plain) (t : Term) (s : Spot) → Law (solve_by Δ f d m vs again metas t s)
    law_solve_by again h metas t Nowhere = law_settled metas m (inverted Δ f d m vs t)
    law_solve_by again h metas t (Outside i) = law_refuse (Scope m (d - suc i))
    law_solve_by again h metas t (Inside i p marks) = law_choose (nat_eq p m) (law_refuse (Scope m (d - suc i))) (law_pruned_by metas (Scope m (d - suc i)) p marks t again h (slice_get metas p))

    law_solve_step : (again : Goes) → ((S : Plain) (u : Term) → Law (again S u)) → (metas : Plain) (t : Term) → Law (solve_step Δ f d m vs again metas t)
    law_solve_step again h metas t = law_solve_by again h metas t (first_bad metas (λ i. is_some (place_of vs i)) 0 Free t)

    -- what solving with that many further rounds makes of the rest
    abbrev rest : ℕ → Goes
    rest zero = λ metas t n. OutOfFuel
    rest (suc g) = λ metas t. solve_deep Δ f d m vs g metas t

    law_deep : (g : ℕ) (metas : Plain) (t : Term) → Law (solve_deep Δ f d m vs g metas t)
    law_deep zero metas t = law_solve_step (rest zero) (λ S x. law_fuel) metas t
    law_deep (suc g) metas t = law_solve_step (rest (suc g)) (law_deep g) metas t

    deep_is : (g : ℕ) (metas : Plain) (t : Term) → solve_deep Δ f d m vs g metas t ≡ solve_step Δ f d m vs (rest g) metas t
    deep_is zero metas t = refl
    deep_is (suc g) metas t = refl

    -- each pruning spends a unit, so a step looks at fewer units of the rest
    round_pruned_by : (u : ℕ) (metas : Plain) (r : Refusal) (p : ℕ) (marks : List Bool) (t : Term) (again after : Goes) → ((S : Plain) (x : Term) → Agree u (again S x) (after S x)) → 1 ≤ occurrences p t → (o : Option (Decl Term)) → Agree (suc u) (pruned_by Δ f metas r p marks t again o) (pruned_by Δ f metas r p marks t after o)
    round_pruned_by u metas r p marks t again after e c None = agree_same
    round_pruned_by u metas r p marks t again after e c (Some d) =
        let flags = kept_entries marks d.ctx [] in
        let ks = reverse flags in
        let v = Meta (length metas) (kept_variables ks 0) in
        agree_then (law_demand (holds_only (is_kept ks) 0 d.ty) r) agree_same (agree_bind (law_kept_context Δ metas flags d.ctx [] []) agree_same (λ Γ. agree_bind (law_declared Δ metas Γ (rename (thin ks) d.ty)) agree_same (λ more. agree_bind (law_settled more p v) agree_same (λ S. agree_spend_each (occurrences p t) c (e S (replace p v t))))))

    round_by : (u : ℕ) (again after : Goes) → ((S : Plain) (x : Term) → Agree u (again S x) (after S x)) → (metas : Plain) (t : Term) (s : Spot) → IsCounted (λ p. occurrences p t) s → Agree (suc u) (solve_by Δ f d m vs again metas t s) (solve_by Δ f d m vs after metas t s)
    round_by u again after e metas t Nowhere c = agree_same
    round_by u again after e metas t (Outside i) c = agree_same
    round_by u again after e metas t (Inside i p marks) c = agree_choose (nat_eq p m) agree_same (round_pruned_by u metas (Scope m (d - suc i)) p marks t again after e c (slice_get metas p))

    round_step : (u : ℕ) (again after : Goes) → ((S : Plain) (x : Term) → Agree u (again S x) (after S x)) → (metas : Plain) (t : Term) → Agree (suc u) (solve_step Δ f d m vs again metas t) (solve_step Δ f d m vs after metas t)
    round_step u again after e metas t = round_by u again after e metas t (first_bad metas (λ i. is_some (place_of vs i)) 0 Free t) (inside_occurs metas (λ i. is_some (place_of vs i)) t)

    -- the bound on rounds makes no difference to fewer units
    rounds : (u g k : ℕ) (metas : Plain) (t : Term) → u ≤ suc g → u ≤ suc k → Agree u (solve_deep Δ f d m vs g metas t) (solve_deep Δ f d m vs k metas t)
    rounds zero g k metas t p q = agree_none
    rounds (suc zero) zero zero metas t p q = agree_same
    rounds (suc zero) zero (suc k) metas t p q = round_step 0 (rest zero) (rest (suc k)) (λ S x. agree_none) metas t
    rounds (suc zero) (suc g) zero metas t p q = round_step 0 (rest (suc g)) (rest zero) (λ S x. agree_none) metas t
    rounds (suc zero) (suc g) (suc k) metas t p q = round_step 0 (rest (suc g)) (rest (suc k)) (λ S x. agree_none) metas t
    rounds (suc (suc u)) zero k metas t p q = absurd (omega arith)
    rounds (suc (suc u)) (suc g) zero metas t p q = absurd (omega arith)
    rounds (suc (suc u)) (suc g) (suc k) metas t p q =
        round_step (suc u) (rest (suc g)) (rest (suc k)) (λ S x. rounds (suc u) g k S x (omega arith) (omega arith)) metas t

    pub law_solve : (metas : Plain) (t : Term) → Law (solve Δ f d m vs metas t)
    law_solve metas t = law_depth (λ g. solve_deep Δ f d m vs g metas t) (λ g. law_deep g metas t) (λ u g k p q. rounds u g k metas t p q)

    rest_is : (n : ℕ) (metas : Plain) (t : Term) → Agree n (rest n metas t) (solve Δ f d m vs metas t)
    rest_is zero metas t = agree_none
    rest_is (suc g) metas t = agree (λ v l. agreed (rounds (suc v) g v metas t (omega arith) (omega arith)) v (omega arith))

    -- solving, in terms of itself
    pub solve_is : (metas : Plain) (t : Term) (n : ℕ) → solve Δ f d m vs metas t n ≡ solve_step Δ f d m vs (solve Δ f d m vs) metas t n
    solve_is metas t n = ap (λ c. c n) (deep_is n metas t) ∙ agreed (round_step n (rest n) (solve Δ f d m vs) (rest_is n) metas t) n (omega arith)

  -- ---- unification, over a call that unifies the parts

  law_each : (metas : Plain) (ps : List Pair) → Law (unify_each f metas ps)
  law_each metas [] = law_pure metas
  law_each metas (p ∷ ps) = law_bind (lf metas p.depth p.found p.wanted) (λ S. law_each S ps)

  law_parts : (metas : Plain) (d : ℕ) (a b : Term) → Law (unify_parts f metas d a b)
  law_parts metas d a b = law_choose (alike a b) (law_each metas (part_pairs d a b)) (law_refuse (Mismatch d a b))

  law_sides : (metas : Plain) (d : ℕ) (a b : Term) (s z : Side) → Law (unify_sides Δ f metas d a b s z)
  law_sides metas d a b (Pattern m us) (Pattern n vs) = law_choose (nat_lt m n) (law_solve d n vs metas a) (law_solve d m us metas b)
  law_sides metas d a b (Pattern m us) (Flexible n) = law_solve d m us metas b
  law_sides metas d a b (Pattern m us) Rigid = law_solve d m us metas b
  law_sides metas d a b (Flexible m) (Pattern n vs) = law_solve d n vs metas a
  law_sides metas d a b Rigid (Pattern n vs) = law_solve d n vs metas a
  law_sides metas d a b (Flexible m) (Flexible n) = law_refuse _
  law_sides metas d a b (Flexible m) Rigid = law_refuse _
  law_sides metas d a b Rigid (Flexible n) = law_refuse _
  law_sides metas d a b Rigid Rigid = law_parts metas d a b

  law_reduced : (metas : Plain) (d : ℕ) (a b : Term) → Law (unify_reduced Δ f metas d a b)
  law_reduced metas d a b =
      law_bind (law_whnf (reach Δ metas) a) (λ a'. law_bind (law_whnf (reach Δ metas) b) (λ b'. law_choose (have_same_goal (side metas a') (side metas b')) (law_parts metas d a' b') (law_sides metas d a' b' (side metas a') (side metas b'))))

  law_step : (metas : Plain) (d : ℕ) (a b : Term) → Law (unify_step Δ f metas d a b)
  law_step metas d a b =
      law_choose (same a b) (law_pure metas) (law_spend (law_choose (are_twins (reach Δ metas) a b) (law_or_else (law_each metas (part_pairs d a b)) (λ r. law_reduced metas d a b)) (law_reduced metas d a b)))

-- ---- two calls that unify and agree below u units

module _ (Δ : Env) (u : ℕ) (f k : Unifies) (lf : (metas : Plain) (d : ℕ) (a b : Term) → Law (f metas d a b)) (h : (metas : Plain) (d : ℕ) (a b : Term) → Agree u (f metas d a b) (k metas d a b)) where
  agree_settled_by : (metas : Plain) (m : ℕ) (v : Term) (o : Option (Decl Term)) → Agree u (settled_by Δ f metas m v o) (settled_by Δ k metas m v o)
  agree_settled_by metas m v None = agree_same
  agree_settled_by metas m v (Some d) = agree_bind (law_infer (reach Δ metas) (rules_ctx d.ctx) v) agree_same (λ found. agree_bind (lf metas (length d.ctx) found d.ty) (h metas (length d.ctx) found d.ty) (λ after. agree_same))

  agree_pruned_by : (metas : Plain) (r : Refusal) (p : ℕ) (marks : List Bool) (t : Term) (again after : Goes) → ((S : Plain) (x : Term) → Agree u (again S x) (after S x)) → (o : Option (Decl Term)) → Agree u (pruned_by Δ f metas r p marks t again o) (pruned_by Δ k metas r p marks t after o)
  agree_pruned_by metas r p marks t again after e None = agree_same
  agree_pruned_by metas r p marks t again after e (Some d) =
      let flags = kept_entries marks d.ctx [] in
      let ks = reverse flags in
      let v = Meta (length metas) (kept_variables ks 0) in
      agree_then (law_demand (holds_only (is_kept ks) 0 d.ty) r) agree_same (agree_bind (law_kept_context Δ metas flags d.ctx [] []) agree_same (λ Γ. agree_bind (law_declared Δ metas Γ (rename (thin ks) d.ty)) agree_same (λ more. agree_bind (law_settled Δ f lf more p v) (agree_settled_by more p v (slice_get more p)) (λ S. agree_then (law_spend_each (occurrences p t)) agree_same (e S (replace p v t))))))

  module _ (d m : ℕ) (vs : Terms) where
    agree_solve_by : (again after : Goes) → ((S : Plain) (x : Term) → Agree u (again S x) (after S x)) → (metas : Plain) (t : Term) (s : Spot) → Agree u (solve_by Δ f d m vs again metas t s) (solve_by Δ k d m vs after metas t s)
    agree_solve_by again after e metas t Nowhere = agree_settled_by metas m (inverted Δ f d m vs t) (slice_get metas m)
    agree_solve_by again after e metas t (Outside i) = agree_same
    agree_solve_by again after e metas t (Inside i p marks) = agree_choose (nat_eq p m) agree_same (agree_pruned_by metas (Scope m (d - suc i)) p marks t again after e (slice_get metas p))

    agree_deep : (g : ℕ) (metas : Plain) (t : Term) → Agree u (solve_deep Δ f d m vs g metas t) (solve_deep Δ k d m vs g metas t)
    agree_deep zero metas t = agree_solve_by (rest Δ f lf d m vs zero) (rest Δ f lf d m vs zero) (λ S x. agree_same) metas t (first_bad metas (λ i. is_some (place_of vs i)) 0 Free t)
    agree_deep (suc g) metas t = agree_solve_by (rest Δ f lf d m vs (suc g)) (λ S x. solve_deep Δ k d m vs g S x) (λ S x. agree_deep g S x) metas t (first_bad metas (λ i. is_some (place_of vs i)) 0 Free t)

    agree_solve : (metas : Plain) (t : Term) → Agree u (solve Δ f d m vs metas t) (solve Δ k d m vs metas t)
    agree_solve metas t = agree (λ n l. agreed (agree_deep n metas t) n l)

  agree_each : (metas : Plain) (ps : List Pair) → Agree u (unify_each f metas ps) (unify_each k metas ps)
  agree_each metas [] = agree_same
  agree_each metas (p ∷ ps) = agree_bind (lf metas p.depth p.found p.wanted) (h metas p.depth p.found p.wanted) (λ S. agree_each S ps)

  agree_parts : (metas : Plain) (d : ℕ) (a b : Term) → Agree u (unify_parts f metas d a b) (unify_parts k metas d a b)
  agree_parts metas d a b = agree_choose (alike a b) (agree_each metas (part_pairs d a b)) agree_same

  agree_sides : (metas : Plain) (d : ℕ) (a b : Term) (s z : Side) → Agree u (unify_sides Δ f metas d a b s z) (unify_sides Δ k metas d a b s z)
  agree_sides metas d a b (Pattern m us) (Pattern n vs) = agree_choose (nat_lt m n) (agree_solve d n vs metas a) (agree_solve d m us metas b)
  agree_sides metas d a b (Pattern m us) (Flexible n) = agree_solve d m us metas b
  agree_sides metas d a b (Pattern m us) Rigid = agree_solve d m us metas b
  agree_sides metas d a b (Flexible m) (Pattern n vs) = agree_solve d n vs metas a
  agree_sides metas d a b Rigid (Pattern n vs) = agree_solve d n vs metas a
  agree_sides metas d a b (Flexible m) (Flexible n) = agree_same
  agree_sides metas d a b (Flexible m) Rigid = agree_same
  agree_sides metas d a b Rigid (Flexible n) = agree_same
  agree_sides metas d a b Rigid Rigid = agree_parts metas d a b

  agree_reduced : (metas : Plain) (d : ℕ) (a b : Term) → Agree u (unify_reduced Δ f metas d a b) (unify_reduced Δ k metas d a b)
  agree_reduced metas d a b =
      agree_bind (law_whnf (reach Δ metas) a) agree_same (λ a'. agree_bind (law_whnf (reach Δ metas) b) agree_same (λ b'. agree_choose (have_same_goal (side metas a') (side metas b')) (agree_parts metas d a' b') (agree_sides metas d a' b' (side metas a') (side metas b'))))

  agree_step : (metas : Plain) (d : ℕ) (a b : Term) → Agree (suc u) (unify_step Δ f metas d a b) (unify_step Δ k metas d a b)
  agree_step metas d a b =
      agree_choose (same a b) agree_same (agree_spend (agree_choose (are_twins (reach Δ metas) a b) (agree_or_else (law_each Δ f lf metas (part_pairs d a b)) (agree_each metas (part_pairs d a b)) (λ r. agree_reduced metas d a b)) (agree_reduced metas d a b)))

-- ---- unification level by level

-- what a unification at depth g makes of its parts
abbrev under : Env → ℕ → Unifies
under Δ zero = λ metas d a b n. OutOfFuel
under Δ (suc g) = λ metas d a b. unify_deep Δ g metas d a b

law_unify_deep : (Δ : Env) (g : ℕ) (metas : Plain) (d : ℕ) (a b : Term) → Law (unify_deep Δ g metas d a b)
law_unify_deep Δ zero = law_step Δ (under Δ zero) (λ metas d a b. law_fuel)
law_unify_deep Δ (suc g) = law_step Δ (under Δ (suc g)) (law_unify_deep Δ g)

law_under : (Δ : Env) (g : ℕ) (metas : Plain) (d : ℕ) (a b : Term) → Law (under Δ g metas d a b)
law_under Δ zero metas d a b = law_fuel
law_under Δ (suc g) metas d a b = law_unify_deep Δ g metas d a b

deep_step : (Δ : Env) (g : ℕ) (metas : Plain) (d : ℕ) (a b : Term) → unify_deep Δ g metas d a b ≡ unify_step Δ (under Δ g) metas d a b
deep_step Δ zero metas d a b = refl
deep_step Δ (suc g) metas d a b = refl

-- the bound on depth makes no difference to fewer units
levels : (Δ : Env) (u g k : ℕ) (metas : Plain) (d : ℕ) (a b : Term) → u ≤ suc g → u ≤ suc k → Agree u (unify_deep Δ g metas d a b) (unify_deep Δ k metas d a b)
levels Δ zero g k metas d a b p q = agree_none
levels Δ (suc zero) zero zero metas d a b p q = agree_same
levels Δ (suc zero) zero (suc k) metas d a b p q = agree_step Δ 0 (under Δ zero) (under Δ (suc k)) (law_under Δ zero) (λ S d a b. agree_none) metas d a b
levels Δ (suc zero) (suc g) zero metas d a b p q = agree_step Δ 0 (under Δ (suc g)) (under Δ zero) (law_under Δ (suc g)) (λ S d a b. agree_none) metas d a b
levels Δ (suc zero) (suc g) (suc k) metas d a b p q = agree_step Δ 0 (under Δ (suc g)) (under Δ (suc k)) (law_under Δ (suc g)) (λ S d a b. agree_none) metas d a b
levels Δ (suc (suc u)) zero k metas d a b p q = absurd (omega arith)
levels Δ (suc (suc u)) (suc g) zero metas d a b p q = absurd (omega arith)
levels Δ (suc (suc u)) (suc g) (suc k) metas d a b p q =
    agree_step Δ (suc u) (under Δ (suc g)) (under Δ (suc k)) (law_under Δ (suc g)) (λ S d a b. levels Δ (suc u) g k S d a b (omega arith) (omega arith)) metas d a b

under_is : (Δ : Env) (n : ℕ) (metas : Plain) (d : ℕ) (a b : Term) → Agree n (under Δ n metas d a b) (unify Δ metas d a b)
under_is Δ zero metas d a b = agree_none
under_is Δ (suc g) metas d a b = agree (λ v l. agreed (levels Δ (suc v) g v metas d a b (omega arith) (omega arith)) v (omega arith))

-- unification, in terms of itself
pub unify_is : UnificationUnfolds
unify_is Δ metas d a b n =
    ap (λ c. c n) (deep_step Δ n metas d a b) ∙ agreed (agree_step Δ n (under Δ n) (unify Δ) (law_under Δ n) (under_is Δ n) metas d a b) n (omega arith)

pub law_unify : (Δ : Env) (metas : Plain) (d : ℕ) (a b : Term) → Law (unify Δ metas d a b)
law_unify Δ metas d a b = law_depth (λ g. unify_deep Δ g metas d a b) (λ g. law_unify_deep Δ g metas d a b) (λ u g k p q. levels Δ u g k metas d a b p q)

-- solving, in terms of itself
pub solving_is : SolvingUnfolds
solving_is Δ d m vs metas t n = solve_is Δ (unify Δ) (law_unify Δ) d m vs metas t n

pub law_settle : (Δ : Env) (metas : Plain) (m : ℕ) (v : Term) → Law (settle Δ metas m v)
law_settle Δ metas m v = law_settled Δ (unify Δ) (law_unify Δ) metas m v

pub unify_has_fuel_law : UnificationHasFuelLaw
unify_has_fuel_law Δ metas d a b = fuel_law (law_unify Δ metas d a b)

pub settle_has_fuel_law : SettlingHasFuelLaw
settle_has_fuel_law Δ metas m v = fuel_law (law_settle Δ metas m v)
