-- The laws of elaboration that this crate proves. Each holds for all items, metavariables, contexts, texts and units.
use Rattle.std.specs.Prelude.{◌≡◌, ℕ, ◌<◌, ◌≤◌, List, All, length}
use Rattle.ld_trees.specs.Term.{Term, Terms, ◌▹◌}
use Rattle.ld_rules.specs.Environment.{Env}
use Rattle.ld_rules.specs.Legality.{IsLegal}
use Rattle.ld_rules.specs.Scoping.{IsScoped}
use Rattle.ld_terms.specs.declared.globals.Local.{Local}
use Rattle.ld_terms.specs.declared.globals.Item.{Item}
use Rattle.term_syntax.specs.declared.surface.Surface.{Surface}
use Rattle.meta_trees.specs.Dependencies.{Depends}
use Rattle.meta_laws.specs.Cut.{cut}
use Rattle.meta_laws.specs.Legality.{IsLegalMetas}
use Rattle.meta_context.specs.Plain.{rules_ctx, rules_env}
use Rattle.goal_state.specs.State.{rules_metas, AreDistinct}
use Rattle.goal_state.specs.Following.{Extend}
use Rattle.unification.specs.Laws.{FuelLaw, Stays}
use Rattle.unification.specs.Steps.{Gave}
use Rattle.unification.specs.Refusals.{Plain}
use Rattle.unification.specs.Metavariables.{reach}
use Rattle.elaboration.specs.Elaboration.{Made, synth, check, check_type}

-- ---- fuel

abbrev pub ElaborationHasFuelLaw : Type 0
ElaborationHasFuelLaw = (items : List (Item Term)) (metas : Plain) (Γ : List (Local Term)) (t : Surface) → FuelLaw (synth items metas Γ t) × FuelLaw (check_type items metas Γ t) × ((T : Term) → FuelLaw (check items metas Γ t T))

-- ---- soundness

-- metavariables and a context of which elaboration may set out
pub record MaySetOut (Δ : Env) (metas : Plain) (Γ : List (Local Term)) : Type 0 where
  pub legal : IsLegalMetas Δ (rules_metas metas)
  pub context : IsLegal (cut (rules_metas metas) Δ (rules_ctx Γ)) (rules_ctx Γ)

-- a number that was declared on the way
pub record IsNew (metas after : Plain) (m : ℕ) : Type 0 where
  pub later : length metas ≤ m
  pub declared : m < length after

-- What is elaborated from the terms X: legal metavariables in which each declaration and value stays, and of which only dependencies of X
-- have got values; a scoped term with a scoped type; holes that are new, those of the `?` each listed once.
pub record IsElaborated (Δ : Env) (metas : Plain) (Γ : List (Local Term)) (X : Terms) (m : Made) : Type 0 where
  pub legal : IsLegalMetas Δ (rules_metas m.work.metas)
  pub extend : Extend metas m.work.metas
  pub others : (k : ℕ) → k < length metas → (Depends (rules_metas metas) X k → ⊥) → Stays metas m.work.metas k
  pub term : IsScoped (reach Δ m.work.metas) (rules_ctx Γ) m.term
  pub ty : IsScoped (reach Δ m.work.metas) (rules_ctx Γ) m.ty
  pub goals : All (IsNew metas m.work.metas) m.work.goals
  pub once : AreDistinct m.work.goals
  pub holes : All (λ h. IsNew metas m.work.metas h.0) m.work.holes

abbrev pub SynthesisIsSound : Type 0
SynthesisIsSound = (items : List (Item Term)) (metas : Plain) (Γ : List (Local Term)) (t : Surface) (m : Made) (n left : ℕ) → MaySetOut (rules_env items) metas Γ → synth items metas Γ t n ≡ Gave m left → IsElaborated (rules_env items) metas Γ (rules_ctx Γ) m

abbrev pub CheckingIsSound : Type 0
CheckingIsSound = (items : List (Item Term)) (metas : Plain) (Γ : List (Local Term)) (t : Surface) (T : Term) (m : Made) (n left : ℕ) → MaySetOut (rules_env items) metas Γ → IsScoped (reach (rules_env items) metas) (rules_ctx Γ) T → check items metas Γ t T n ≡ Gave m left → IsElaborated (rules_env items) metas Γ (rules_ctx Γ ▹ T) m

abbrev pub CheckingTypesIsSound : Type 0
CheckingTypesIsSound = (items : List (Item Term)) (metas : Plain) (Γ : List (Local Term)) (t : Surface) (m : Made) (n left : ℕ) → MaySetOut (rules_env items) metas Γ → check_type items metas Γ t n ≡ Gave m left → IsElaborated (rules_env items) metas Γ (rules_ctx Γ) m
