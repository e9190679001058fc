-- What is done with two weak head forms is what their definition says.
use Rattle.std.proofs.Common.{◌≡◌, ℕ, Bool, true, false, nat_lt, refl, sym, if◌then◌else◌}
use Rattle.ld_trees.specs.Term.{Term}
use Rattle.ld_rules.specs.Environment.{Env}
use Rattle.unification.specs.Steps.{choose}
use Rattle.unification.specs.Refusals.{Plain}
use Rattle.unification.specs.Patterns.{Side, Rigid, Flexible, Pattern, side, have_same_goal}
use Rattle.unification.specs.Unification.{unify, unify_parts, unify_sides, unify_forms}
use Rattle.pattern_unify.specs.Plans.{Plan, Parts, SolveFirst, SolveSecond, apart, plan, planned}

module _ (Δ : Env) (metas : Plain) (d : ℕ) (a b : Term) (n : ℕ) where
  chosen : (x : Bool) (p q : Plan) → planned Δ metas d a b (if x then p else q) n ≡ choose x (planned Δ metas d a b p) (planned Δ metas d a b q) n
  chosen true p q = refl
  chosen false p q = refl

  sides_are : (s z : Side) → planned Δ metas d a b (apart s z) n ≡ unify_sides Δ (unify Δ) metas d a b s z n
  sides_are (Pattern m us) (Pattern k vs) = chosen (nat_lt m k) (SolveSecond k vs) (SolveFirst m us)
  sides_are (Pattern m us) (Flexible k) = refl
  sides_are (Pattern m us) Rigid = refl
  sides_are (Flexible m) (Pattern k vs) = refl
  sides_are (Flexible m) (Flexible k) = refl
  sides_are (Flexible m) Rigid = refl
  sides_are Rigid (Pattern k vs) = refl
  sides_are Rigid (Flexible k) = refl
  sides_are Rigid Rigid = refl

  joined : (x : Bool) (s z : Side) → planned Δ metas d a b (if x then Parts else apart s z) n ≡ choose x (unify_parts (unify Δ) metas d a b) (unify_sides Δ (unify Δ) metas d a b s z) n
  joined true s z = refl
  joined false s z = sides_are s z

  pub forms_planned : unify_forms Δ (unify Δ) metas d a b n ≡ planned Δ metas d a b (plan (side metas a) (side metas b)) n
  forms_planned = sym (joined (have_same_goal (side metas a) (side metas b)) (side metas a) (side metas b))
