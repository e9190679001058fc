-- The laws of goal states that this crate proves. Each holds for all items, types and states.
use Rattle.std.specs.Prelude.{◌≡◌, ℕ, List}
use Rattle.ld_trees.specs.Term.{Term, none}
use Rattle.ld_trees.specs.Scoping.{Scoped}
use Rattle.ld_rules.specs.Derivation.{Derives}
use Rattle.ld_rules.specs.Legality.{IsLegalEnvironment}
use Rattle.ld_terms.specs.declared.globals.Item.{Item}
use Rattle.conversion.specs.Runs.{Gave}
use Rattle.meta_context.specs.Plain.{rules_env}
use Rattle.goal_state.specs.State.{State, IsLegalState, IsSolved, HasNoMeta, root_type, root_value}
use Rattle.goal_state.specs.Starting.{Inferred, started}

-- a state that is started in a legal environment is legal
abbrev pub StartingIsLegal : Type 0
StartingIsLegal = (items : List (Item Term)) (T : Term) (units left : ℕ) (s : State) → IsLegalEnvironment (rules_env items) → started items T units ≡ Inferred (Gave s left) → IsLegalState s

-- a term has the type of metavariable 0 in the environment alone and the empty context, is closed, and has no metavariable
pub record IsProof (s : State) (t : Term) : Type 0 where
  pub derives : Derives (rules_env s.items) none t (root_type s)
  pub closed : Scoped 0 t
  pub whole : HasNoMeta t

-- the value of a legal state that is solved is proved
abbrev pub SolvedIsProved : Type 0
SolvedIsProved = (s : State) → IsLegalState s → IsSolved s → IsProof s (root_value s)
