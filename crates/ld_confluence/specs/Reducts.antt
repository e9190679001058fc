-- Reduction in any number of steps.
use Rattle.ld_trees.specs.Term.{Term}
use Rattle.ld_rules.specs.Environment.{Env}
use Rattle.ld_rules.specs.Reduction.{Step}

-- one term comes to another by no step, or by one step and more
pub data Reduces (Δ : Env) : Term → Term → Type 0 where
  no_steps : {a : Term} → Reduces Δ a a
  step_and : {a b c : Term} → Step Δ a b → Reduces Δ b c → Reduces Δ a c
