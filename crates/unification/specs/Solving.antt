-- Solving: a pattern gets a term as its value, from which metavariables with bad variables are pruned first.
use Rattle.std.specs.Prelude.{ℕ, zero, suc, ◌-◌, nat_eq, is_some, unwrap_or}
use Rattle.ld_trees.specs.Term.{Term, Terms}
use Rattle.ld_trees.specs.Substitution.{rename}
use Rattle.ld_rules.specs.Environment.{Env}
use Rattle.unification.specs.Steps.{OutOfFuel, refuse, choose}
use Rattle.unification.specs.Refusals.{Scope, Step, Plain, Unifies}
use Rattle.unification.specs.Metavariables.{settled}
use Rattle.unification.specs.Patterns.{place_of}
use Rattle.unification.specs.Pruning.{Spot, Nowhere, Outside, Inside, Free, first_bad, Goes, pruned}

-- ?m[vs] by t in a context of so many entries
module _ (Δ : Env) (unify : Unifies) (depth m : ℕ) (vs : Terms) where
  -- t with each variable that is an argument named by its place
  abbrev pub inverted : Term → Term
  inverted t = rename (λ i. unwrap_or (place_of vs i) 0) t

  -- Without a bad variable m is settled. A bad variable outside the arguments of unassigned metavariables, or inside those of m, is
  -- refused with its level; inside those of another one that one is pruned, and the solving begins again.
  abbrev pub solve_by : Goes → Plain → Term → Spot → Step Plain
  solve_by again metas t Nowhere = settled Δ unify metas m (inverted t)
  solve_by again metas t (Outside i) = refuse (Scope m (depth - suc i))
  solve_by again metas t (Inside i p marks) = choose (nat_eq p m) (refuse (Scope m (depth - suc i))) (pruned Δ unify metas (Scope m (depth - suc i)) p marks t again)

  abbrev pub solve_step : Goes → Goes
  solve_step again metas t = solve_by again metas t (first_bad metas (λ i. is_some (place_of vs i)) 0 Free t)

  -- Solving in at most so many further rounds. Each pruning spends a unit, so the units at hand bound the rounds.
  abbrev pub solve_deep : ℕ → Goes
  solve_deep zero = solve_step (λ metas t n. OutOfFuel)
  solve_deep (suc g) = solve_step (λ metas t. solve_deep g metas t)

  abbrev pub solve : Goes
  solve metas t n = solve_deep n metas t n
