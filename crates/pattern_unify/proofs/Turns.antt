-- Pairs that are unified in turn.
use Rattle.std.proofs.Common.{◌≡◌, ℕ, ◌≤◌, List, [], ◌∷◌, ◌++◌, All, Option, Some, None, option_map, true, false, ap, ◌∙◌, subst}
use Rattle.ld_trees.specs.Term.{Term}
use Rattle.ld_rules.specs.Environment.{Env}
use Rattle.ld_terms.specs.Views.{Keeps}
use Rattle.ld_terms.specs.declared.globals.Item.{Item}
use Rattle.ld_terms.specs.declared.globals.Decl.{Decl}
use Rattle.conversion.specs.Conversion.{alike}
use Rattle.conversion.specs.Globals.{IsDeclOf}
use Rattle.meta_context.specs.Plain.{rules_env}
use Rattle.goal_state.specs.State.{plain_metas}
use Rattle.unification.specs.Refusals.{Plain}
use Rattle.unification.specs.Steps.{Gave, go_on}
use Rattle.unification.specs.Unification.{part_pairs, unify, unify_each}
use Rattle.pattern_unify.specs.Answers.{AreRead}
use Rattle.pattern_unify.specs.Pairs.{pairs_back, ArePairsHeld, ArePairs}
use Rattle.pattern_unify.specs.declared.pairs.Pair.{Pair}
use Rattle.pattern_unify.proofs.PartPairs.{pairs_back_append}

-- Of some pairs those that were taken are unified, in metavariables that the store holds now.
pub record IsUnifiedSoFar {H : Type 0} (holds : H → Type 0) (means : H → Term) (holds' : H → Type 0) (means' : H → Term) (items : List (Item H)) (metas after : List (Decl H)) (whole pairs : List (Pair H)) (before now : ℕ) : Type 0 where
  pub kept : Keeps holds means holds' means'
  pub less : now ≤ before
  pub metas_held : All (IsDeclOf holds') after
  pub pairs_held : ArePairsHeld holds pairs
  pub goes : (Δ : List (Item Term)) (Σ : Plain) → AreRead means items metas Δ Σ →
      unify_each (unify (rules_env Δ)) Σ (pairs_back means whole) before ≡ unify_each (unify (rules_env Δ)) (plain_metas means' after) (pairs_back means pairs) now

-- the last pair of the list comes first
pub each_turn : {H : Type 0} (means : H → Term) (Δ : Env) (Σ : Plain) (items rest : List (Pair H)) (p : Pair H) (n : ℕ) → items ≡ rest ++ p ∷ [] →
    unify_each (unify Δ) Σ (pairs_back means items) n ≡ go_on (unify Δ Σ p.depth (means p.found) (means p.wanted) n) (λ more. unify_each (unify Δ) more (pairs_back means rest))
each_turn means Δ Σ items rest p n e = ap (λ ps. unify_each (unify Δ) Σ (pairs_back means ps) n) e ∙ ap (λ ps. unify_each (unify Δ) Σ ps n) (pairs_back_append p.depth means rest (p ∷ []))

pub each_ends : {H : Type 0} (means : H → Term) (Δ : Env) (Σ : Plain) (items : List (Pair H)) (n : ℕ) → items ≡ [] → unify_each (unify Δ) Σ (pairs_back means items) n ≡ Gave Σ n
each_ends means Δ Σ items n e = ap (λ ps. unify_each (unify Δ) Σ (pairs_back means ps) n) e

-- the parts of two terms that are alike, and two that aren't
pub at_some : {H V : Type 0} (means : H → Term) (d : ℕ) (a b : Term) (items : V → List (Pair H)) (o : Option V) (v : V) → o ≡ Some v → ArePairs means d a b (option_map items o) → (alike a b ≡ true) × (pairs_back means (items v) ≡ part_pairs d a b)
at_some means d a b items o v e h = subst (λ o. ArePairs means d a b (option_map items o)) e h

pub at_none : {H V : Type 0} (means : H → Term) (d : ℕ) (a b : Term) (items : V → List (Pair H)) (o : Option V) → o ≡ None → ArePairs means d a b (option_map items o) → alike a b ≡ false
at_none means d a b items o e h = subst (λ o. ArePairs means d a b (option_map items o)) e h
