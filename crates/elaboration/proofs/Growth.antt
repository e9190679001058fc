-- Unification never makes metavariables fewer, whatever they are.
use Rattle.std.proofs.Common.{◌≡◌, ℕ, zero, suc, ◌-◌, ◌≤◌, List, [], ◌∷◌, length, reverse, Bool, not, ◌&&◌, Option, Some, None, is_some, refl, ap, nat_eq, nat_lt, arith}
use Rattle.std.specs.Prelude.{slice_get}
use Rattle.ld_trees.specs.Term.{Term, Meta, Terms, none, ◌▹◌, same}
use Rattle.ld_trees.specs.Substitution.{rename}
use Rattle.ld_rules.specs.Environment.{Env}
use Rattle.ld_terms.specs.declared.globals.Local.{Local}
use Rattle.ld_terms.specs.declared.globals.Decl.{Decl}
use Rattle.conversion.specs.WeakHead.{whnf}
use Rattle.conversion.specs.Conversion.{alike, are_twins}
use Rattle.meta_trees.specs.Dependencies.{depends}
use Rattle.meta_context.specs.Declaring as plain
use Rattle.meta_context.specs.Limits.{is_full, is_too_deep}
use Rattle.meta_context.specs.Plain.{rules_ctx}
use Rattle.goal_state.specs.State.{rules_metas, is_open}
use Rattle.unification.specs.Steps.{OutOfFuel, spend_each}
use Rattle.unification.specs.Refusals.{Refusal, Mismatch, Scope, Cycle, TooDeep, TooManyMetas, kernel_step, Plain, Unifies}
use Rattle.unification.specs.Metavariables.{reach, assigned, declared, settled_by}
use Rattle.unification.specs.Patterns.{Side, Rigid, Flexible, Pattern, side, have_same_goal, holds_only, place_of}
use Rattle.unification.specs.Pruning.{Spot, Nowhere, Outside, Inside, Free, first_bad, is_kept, kept_entries, kept_context, kept_variables, thin, occurrences, replace, Goes, pruned_by}
use Rattle.unification.specs.Solving.{inverted, solve_by, solve_deep, solve}
use Rattle.unification.specs.Unification.{Pair, part_pairs, unify_each, unify_parts, unify_sides, unify_forms, unify_reduced, unify_step, unify_deep, unify}
use Rattle.unification.proofs.Gives.{Gives, gives, given, gives_pure, gives_refuse, gives_less, gives_choose, gives_bind, gives_then, gives_any, gives_demand, gives_spend, gives_or_else}

-- they are as many at least
abbrev pub Grows : Plain → Plain → Type 0
Grows metas after = length metas ≤ length after

pub grows_itself : (metas : Plain) → Grows metas metas
grows_itself metas = omega arith

grows_more : (metas more after : Plain) → Grows metas more → Grows more after → Grows metas after
grows_more metas more after a b = omega (arith, a, b)

assigned_length : (m : ℕ) (v : Term) (ds : Plain) → length (plain.assigned m v ds) ≡ length ds
assigned_length m v [] = refl
assigned_length zero v (d ∷ ds) = refl
assigned_length (suc m) v (d ∷ ds) = ap suc (assigned_length m v ds)

declared_length : (Γ : List (Local Term)) (T : Term) (ds : Plain) → length (plain.declared Γ T ds) ≡ suc (length ds)
declared_length Γ T [] = refl
declared_length Γ T (d ∷ ds) = ap suc (declared_length Γ T ds)

assigned_grows : (metas : Plain) (m : ℕ) (v : Term) → Gives (Grows metas) (assigned metas m v)
assigned_grows metas m v =
    gives_demand (is_open metas m && not (depends (rules_metas metas) (none ▹ v) m)) (Cycle m) (λ _.
    gives_demand (not (is_too_deep (none ▹ v))) (TooDeep m) (λ _.
    gives_pure (plain.assigned m v metas) (let e = assigned_length m v metas in omega (arith, e))))

module _ (Δ : Env) where
  -- a further one is declared
  pub declares_one : (metas : Plain) (Γ : List (Local Term)) (T : Term) → Gives (λ after. length after ≡ suc (length metas)) (declared Δ metas Γ T)
  declares_one metas Γ T =
      gives_demand (not (is_full metas)) TooManyMetas (λ _.
      gives_demand (not (is_too_deep (rules_ctx Γ ▹ T))) (TooDeep (length metas)) (λ _.
      gives_then (gives_any _) (λ _ _. gives_pure (plain.declared Γ T metas) (declared_length Γ T metas))))

  -- a call with which metavariables grow
  abbrev Growing : Unifies → Type 0
  Growing unify = (metas : Plain) (d : ℕ) (a b : Term) → Gives (Grows metas) (unify metas d a b)

  module _ (unify : Unifies) (growing : Growing unify) where
    settled_grows : (metas : Plain) (m : ℕ) (v : Term) (o : Option (Decl Term)) → Gives (Grows metas) (settled_by Δ unify metas m v o)
    settled_grows metas m v None = gives_refuse (Cycle m)
    settled_grows metas m v (Some d) =
        gives_bind (gives_any _) (λ found _.
        gives_bind (growing metas (length d.ctx) found d.ty) (λ more a.
        gives_less (λ after b. grows_more metas more after a b) (assigned_grows more m v)))

    module _ (depth m : ℕ) (vs : Terms) where
      abbrev GoesOn : Goes → Type 0
      GoesOn again = (metas : Plain) (t : Term) → Gives (Grows metas) (again metas t)

      pruned_grows : (metas : Plain) (r : Refusal) (p : ℕ) (marks : List Bool) (t : Term) (again : Goes) → GoesOn again → (o : Option (Decl Term)) → Gives (Grows metas) (pruned_by Δ unify metas r p marks t again o)
      pruned_grows metas r p marks t again on None = gives_refuse r
      pruned_grows metas r p marks t again on (Some d) =
          let flags : List Bool = kept_entries marks d.ctx [] in
          let ks : List Bool = reverse flags in
          let v = Meta (length metas) (kept_variables ks 0) in
          gives_demand (holds_only (is_kept ks) 0 d.ty) r (λ _.
          gives_bind (gives_any (kept_context Δ metas flags d.ctx [] [])) (λ Γ _.
          gives_bind (declares_one metas Γ (rename (thin ks) d.ty)) (λ one e.
          gives_bind (settled_grows one p v (slice_get one p)) (λ more a.
          gives_then (gives_any (spend_each (occurrences p t))) (λ _ _.
          gives_less (λ after b. omega (arith, e, a, b)) (on more (replace p v t)))))))

      solved_grows : (again : Goes) → GoesOn again → (metas : Plain) (t : Term) (s : Spot) → Gives (Grows metas) (solve_by Δ unify depth m vs again metas t s)
      solved_grows again on metas t Nowhere = settled_grows metas m (inverted Δ unify depth m vs t) (slice_get metas m)
      solved_grows again on metas t (Outside i) = gives_refuse _
      solved_grows again on metas t (Inside i p marks) = gives_choose (nat_eq p m) (λ _. gives_refuse _) (λ _. pruned_grows metas (Scope m (depth - suc i)) p marks t again on (slice_get metas p))

      deep_goes_on : (g : ℕ) → GoesOn (solve_deep Δ unify depth m vs g)
      deep_goes_on zero metas t = solved_grows (λ metas t n. OutOfFuel) (λ metas t. gives (λ n left x e. absurd cc)) metas t (first_bad metas (λ i. is_some (place_of vs i)) 0 Free t)
      deep_goes_on (suc g) metas t = solved_grows (λ metas t. solve_deep Δ unify depth m vs g metas t) (λ metas t. deep_goes_on g metas t) metas t (first_bad metas (λ i. is_some (place_of vs i)) 0 Free t)

      solving_grows : GoesOn (solve Δ unify depth m vs)
      solving_grows metas t = gives (λ n left x e. given (deep_goes_on n metas t) n left x e)

    each_grows : (metas : Plain) (ps : List Pair) → Gives (Grows metas) (unify_each unify metas ps)
    each_grows metas [] = gives_pure metas (grows_itself metas)
    each_grows metas (p ∷ ps) = gives_bind (growing metas p.depth p.found p.wanted) (λ more a. gives_less (λ after b. grows_more metas more after a b) (each_grows more ps))

    module _ (metas : Plain) (d : ℕ) (a b : Term) where
      parts_grow : Gives (Grows metas) (unify_parts unify metas d a b)
      parts_grow = gives_choose (alike a b) (λ _. each_grows metas (part_pairs d a b)) (λ _. gives_refuse (Mismatch d a b))

      sides_grow : (x y : Side) → Gives (Grows metas) (unify_sides Δ unify metas d a b x y)
      sides_grow (Pattern m us) (Pattern n vs) = gives_choose (nat_lt m n) (λ _. solving_grows d n vs metas a) (λ _. solving_grows d m us metas b)
      sides_grow (Pattern m us) (Flexible n) = solving_grows d m us metas b
      sides_grow (Pattern m us) Rigid = solving_grows d m us metas b
      sides_grow (Flexible m) (Pattern n vs) = solving_grows d n vs metas a
      sides_grow Rigid (Pattern n vs) = solving_grows d n vs metas a
      sides_grow (Flexible m) (Flexible n) = gives_refuse _
      sides_grow (Flexible m) Rigid = gives_refuse _
      sides_grow Rigid (Flexible n) = gives_refuse _
      sides_grow Rigid Rigid = parts_grow

      forms_grow : Gives (Grows metas) (unify_forms Δ unify metas d a b)
      forms_grow = gives_choose (have_same_goal (side metas a) (side metas b)) (λ _. parts_grow) (λ _. sides_grow (side metas a) (side metas b))

    reduced_grow : (metas : Plain) (d : ℕ) (a b : Term) → Gives (Grows metas) (unify_reduced Δ unify metas d a b)
    reduced_grow metas d a b =
        gives_bind (gives_any (kernel_step (whnf (reach Δ metas) a))) (λ a' _.
        gives_bind (gives_any (kernel_step (whnf (reach Δ metas) b))) (λ b' _.
        forms_grow metas d a' b'))

    step_grows : Growing (unify_step Δ unify)
    step_grows metas d a b =
        gives_choose (same a b) (λ _. gives_pure metas (grows_itself metas)) (λ _.
        gives_spend (gives_choose (are_twins (reach Δ metas) a b) (λ _. gives_or_else (each_grows metas (part_pairs d a b)) (λ _. reduced_grow metas d a b)) (λ _. reduced_grow metas d a b)))

  deep_grows : (g : ℕ) → Growing (unify_deep Δ g)
  deep_grows zero metas d a b = step_grows (λ metas d a b n. OutOfFuel) (λ metas d a b. gives (λ n left x e. absurd cc)) metas d a b
  deep_grows (suc g) metas d a b = step_grows (λ metas d a b. unify_deep Δ g metas d a b) (λ metas d a b. deep_grows g metas d a b) metas d a b

  pub unifying_grows : Growing (unify Δ)
  unifying_grows metas d a b = gives (λ n left x e. given (deep_grows n metas d a b) n left x e)
