-- What is done with two weak head forms, by what stands at their heads.
use Rattle.std.specs.Prelude.{ℕ, nat_lt, if◌then◌else◌}
use Rattle.ld_trees.specs.Term.{Term, Terms}
use Rattle.ld_rules.specs.Environment.{Env}
use Rattle.unification.specs.Steps.{refuse}
use Rattle.unification.specs.Refusals.{NotPattern, Step, Plain}
use Rattle.unification.specs.Patterns.{Side, Rigid, Flexible, Pattern, have_same_goal}
use Rattle.unification.specs.Solving.{solve}
use Rattle.unification.specs.Unification.{unify, unify_parts}
use Rattle.pattern_unify.specs.declared.plans.Plan.{Plan as StoredPlan}
use Rattle.pattern_unify.specs.declared.plans.Plan.TheVariants as stored
use Rattle.pattern_unify.specs.Walks.{variables_of}

-- their parts are unified, the pattern on one side is solved by the other side, or a metavariable at a head is refused
pub data Plan : Type 0 where
  Parts : Plan
  SolveFirst : (m : ℕ) → Terms → Plan
  SolveSecond : (m : ℕ) → Terms → Plan
  Refuse : (m : ℕ) → Plan

abbrev pub plain_plan : StoredPlan → Plan
plain_plan stored.Parts = Parts
plain_plan (stored.SolveFirst m args) = SolveFirst m (variables_of args.variables.items)
plain_plan (stored.SolveSecond m args) = SolveSecond m (variables_of args.variables.items)
plain_plan (stored.Refuse m) = Refuse m

-- where they have different heads
abbrev pub apart : Side → Side → Plan
apart (Pattern m us) (Pattern n vs) = if nat_lt m n then SolveSecond n vs else SolveFirst m us
apart (Pattern m us) _ = SolveFirst m us
apart _ (Pattern n vs) = SolveSecond n vs
apart (Flexible m) _ = Refuse m
apart Rigid (Flexible n) = Refuse n
apart Rigid Rigid = Parts

abbrev pub plan : Side → Side → Plan
plan s z = if have_same_goal s z then Parts else apart s z

-- what is planned, with two terms in a context of so many entries
abbrev pub planned : Env → Plain → ℕ → Term → Term → Plan → Step Plain
planned Δ metas d a b Parts = unify_parts (unify Δ) metas d a b
planned Δ metas d a b (SolveFirst m us) = solve Δ (unify Δ) d m us metas b
planned Δ metas d a b (SolveSecond n vs) = solve Δ (unify Δ) d n vs metas a
planned Δ metas d a b (Refuse m) = refuse (NotPattern m)
