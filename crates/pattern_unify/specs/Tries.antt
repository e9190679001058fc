-- Words for the private calls of unification whose definitions go on with another call.
use Rattle.std.specs.Prelude.{◌≡◌, ℕ, [], reverse, length, List, Bool, Option, Some, None, Result, Ok, Err}
use Rattle.ld_trees.specs.Term.{Term, Meta}
use Rattle.ld_trees.specs.Substitution.{rename}
use Rattle.ld_rules.specs.Environment.{Env}
use Rattle.ld_terms.specs.declared.globals.Local.{Local}
use Rattle.ld_terms.specs.declared.globals.Decl.{Decl}
use Rattle.ld_terms.specs.declared.halt.Halt.{Halt}
use Rattle.ld_terms.specs.declared.halt.Halt.TheVariants as halt
use Rattle.conversion.specs.Conversion.{are_twins}
use Rattle.goal_state.specs.State.{plain_metas}
use Rattle.unification.specs.Steps.{Outcome, Gave, OutOfFuel, pure, ◌>>=◌, choose, or_else}
use Rattle.unification.specs.Refusals.{Refusal, Step, Plain}
use Rattle.unification.specs.Metavariables.{reach, declared}
use Rattle.unification.specs.Pruning.{Goes, kept_context, kept_variables, thin}
use Rattle.unification.specs.Unification.{unify, unify_each, part_pairs}
use Rattle.pattern_unify.specs.declared.fault.UnifyFault.{UnifyFault}
use Rattle.pattern_unify.specs.declared.fault.UnifyFault.TheVariants as fault
use Rattle.pattern_unify.specs.Answers.{Shows}

-- ---- a unification that is given up where it is refused

-- the parts of equal defined constants, and where that is refused another call
abbrev pub tried : Env → Plain → ℕ → Term → Term → Step Plain → Step Plain
tried Δ metas d a b next = choose (are_twins (reach Δ metas) a b) (or_else (unify_each (unify Δ) metas (part_pairs d a b)) (λ r. next)) next

-- it is done, it is given up and the units that are left go to the next call, or it is over
abbrev pub IsTried : {M : Type 0} → (M → Plain) → Env → Plain → ℕ → Term → Term → ℕ → ℕ → Result (Option M) Halt → Type 0
IsTried value Δ metas d a b n left (Ok (Some m)) = (next : Step Plain) → tried Δ metas d a b next n ≡ Gave (value m) left
IsTried value Δ metas d a b n left (Ok None) = (next : Step Plain) → tried Δ metas d a b next n ≡ next left
IsTried value Δ metas d a b n left (Err halt.Fuel) = ((next : Step Plain) → tried Δ metas d a b next n ≡ OutOfFuel) × (left ≡ 0)
IsTried value Δ metas d a b n left (Err halt.Memory) = Unit {0}

abbrev pub IsGivenUp : {M H : Type 0} → Result M (UnifyFault H) → Result (Option M) Halt → Type 0
IsGivenUp (Ok m) r = r ≡ Ok (Some m)
IsGivenUp (Err fault.Fuel) r = r ≡ Err halt.Fuel
IsGivenUp (Err fault.Memory) r = r ≡ Err halt.Memory
IsGivenUp (Err e) r = r ≡ Ok None

-- ---- pruning

-- The outcome of a call that goes on with metavariables and a term: where it goes on with those, or the fault that it shows.
abbrev pub GoesOn : {H : Type 0} → (H → Type 0) → (H → Term) → (Goes → Outcome Refusal Plain) → ℕ → Result (List (Decl H) × H) (UnifyFault H) → Type 0
GoesOn holds means run left (Ok p) = (again : Goes) → run again ≡ again (plain_metas means p.0) (means p.1) left
GoesOn holds means run left (Err e) = (again : Goes) → Shows holds means (run again) left e

-- metavariables and a term
abbrev pub with_term : {H : Type 0} → (H → Term) → List (Decl H) × H → Plain × Term
with_term means p = (plain_metas means p.0, means p.1)

-- a metavariable over the kept entries of a context is declared, and stands for one over the whole context
abbrev pub shrunk : Env → Plain → List Bool → List (Local Term) → Term → Step (Plain × Term)
shrunk Δ metas flags Γ A = do
  kept ← kept_context Δ metas flags Γ [] []
  more ← declared Δ metas kept (rename (thin (reverse flags)) A)
  pure (more, Meta (length metas) (kept_variables (reverse flags) 0))
