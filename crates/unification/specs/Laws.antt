-- The laws of unification that this crate proves. Each holds for all environments, metavariables, terms and units.
use Rattle.std.specs.Prelude.{◌≡◌, ◌⊎◌, ℕ, ◌-◌, ◌<◌, ◌≤◌, List, Bool, true, length, slice_get, Some, []}
use Rattle.ld_trees.specs.Term.{Term, Terms, Meta, none, ◌▹◌}
use Rattle.ld_rules.specs.Environment.{Env}
use Rattle.ld_rules.specs.Reduction.{Equal}
use Rattle.ld_rules.specs.Scoping.{Known}
use Rattle.ld_terms.specs.declared.globals.Local.{Local}
use Rattle.ld_terms.specs.declared.globals.Decl.{Decl}
use Rattle.meta_trees.specs.Dependencies.{occurs_in, parts, Depends}
use Rattle.meta_laws.specs.Cut.{cut}
use Rattle.meta_laws.specs.Legality.{IsLegalMetas}
use Rattle.meta_context.specs.Plain.{rules_ctx}
use Rattle.meta_context.specs.Stored.{decl_of}
use Rattle.goal_state.specs.State.{rules_metas}
use Rattle.goal_state.specs.Following.{Extend}
use Rattle.unification.specs.Steps.{Outcome, Gave, Refused, OutOfFuel, Step}
use Rattle.unification.specs.Refusals.{Plain}
use Rattle.unification.specs.Metavariables.{reach}
use Rattle.unification.specs.Pruning.{kept_context}
use Rattle.unification.specs.Solving.{solve, solve_step}
use Rattle.unification.specs.Unification.{unify, unify_step, settle}

-- ---- fuel

-- an answer that used u units: with i units, of which i - u are then left, the same answer, and no answer with fewer than u
abbrev pub Covers : {R A : Type 0} → Step R A → (ℕ → Outcome R A) → ℕ → ℕ → Type 0
Covers m answer u i = (u ≤ i → m i ≡ answer (i - u)) × (i < u → m i ≡ OutOfFuel)

-- the fuel law of a call: an answer with n units of which some are left tells what every other number of units gives
abbrev pub FuelLaw : {R A : Type 0} → Step R A → Type 0
FuelLaw {R} {A} m = (n left i : ℕ) → ((x : A) → m n ≡ Gave x left → Covers m (Gave x) (n - left) i) × ((r : R) → m n ≡ Refused r left → Covers m (Refused r) (n - left) i)

abbrev pub UnificationHasFuelLaw : Type 0
UnificationHasFuelLaw = (Δ : Env) (metas : Plain) (d : ℕ) (a b : Term) → FuelLaw (unify Δ metas d a b)

abbrev pub SettlingHasFuelLaw : Type 0
SettlingHasFuelLaw = (Δ : Env) (metas : Plain) (m : ℕ) (v : Term) → FuelLaw (settle Δ metas m v)

-- unification is a step over the unification of others, and solving a step over the solving in metavariables that are pruned: the bounds
-- on their levels and rounds make no difference
abbrev pub UnificationUnfolds : Type 0
UnificationUnfolds = (Δ : Env) (metas : Plain) (d : ℕ) (a b : Term) (n : ℕ) → unify Δ metas d a b n ≡ unify_step Δ (unify Δ) metas d a b n

abbrev pub SolvingUnfolds : Type 0
SolvingUnfolds = (Δ : Env) (d m : ℕ) (vs : Terms) (metas : Plain) (t : Term) (n : ℕ) → solve Δ (unify Δ) d m vs metas t n ≡ solve_step Δ (unify Δ) d m vs (solve Δ (unify Δ) d m vs) metas t n

-- ---- soundness

-- Terms that are unified in legal metavariables are βδ-equal in legal ones, by steps in the environment cut to the dependencies of the
-- two terms. Each declaration and value stays.
abbrev pub UnifyingIsSound : Type 0
UnifyingIsSound = (Δ : Env) (metas after : Plain) (d n left : ℕ) (a b : Term) → IsLegalMetas Δ (rules_metas metas) → Known (reach Δ metas) a → Known (reach Δ metas) b → unify Δ metas d a b n ≡ Gave after left
    → IsLegalMetas Δ (rules_metas after) × Extend metas after × Equal (cut (rules_metas after) Δ (none ▹ a ▹ b)) a b

-- A metavariable that is settled has the value, and each declaration and value stays.
abbrev pub SettlingIsSound : Type 0
SettlingIsSound = (Δ : Env) (metas after : Plain) (m n left : ℕ) (d : Decl Term) (v : Term) → IsLegalMetas Δ (rules_metas metas) → Known (reach Δ metas) v → slice_get metas m ≡ Some d → settle Δ metas m v n ≡ Gave after left
    → IsLegalMetas Δ (rules_metas after) × Extend metas after × (slice_get after m ≡ Some (record { ctx = d.ctx; ty = d.ty; value = Some v }))

-- ---- what a unification may change

-- the terms of a metavariable's declaration
abbrev pub declared_terms : Decl Term → Terms
declared_terms d = rules_ctx d.ctx ▹ d.ty

-- a metavariable is as it was
abbrev pub Stays : Plain → Plain → ℕ → Type 0
Stays metas after k = slice_get after k ≡ slice_get metas k

-- a new metavariable, or one that X depends on
abbrev pub IsNear : Plain → Terms → ℕ → Type 0
IsNear metas X k = (length metas ≤ k) ⊎ Depends (rules_metas metas) X k

-- A context over entries of contexts of the dependencies of X: one of these contexts, or one such context with entries left out.
pub data LiesOver (metas : Plain) (X : Terms) : List (Local Term) → Type 0 where
  whole : {k : ℕ} {d : Decl Term} → Depends (rules_metas metas) X k → slice_get metas k ≡ Some d → LiesOver metas X d.ctx
  thinner : {Γ Γ' : List (Local Term)} (Δ : Env) (more : Plain) (flags : List Bool) (n left : ℕ) → LiesOver metas X Γ → kept_context Δ more flags Γ [] [] n ≡ Gave Γ' left → LiesOver metas X Γ'

-- Only dependencies of X that have no value are assigned, what is declared lies over entries of their contexts, and what is declared or
-- assigned speaks of dependencies of X and of new metavariables alone.
pub record HasFootprint (metas after : Plain) (X : Terms) : Type 0 where
  pub others : (k : ℕ) → k < length metas → (Depends (rules_metas metas) X k → ⊥) → Stays metas after k
  pub values : (k : ℕ) (d : Decl Term) (v : Term) → slice_get metas k ≡ Some d → d.value ≡ Some v → Stays metas after k
  pub new : (k : ℕ) (e : Decl Term) → length metas ≤ k → slice_get after k ≡ Some e → LiesOver metas X e.ctx
  pub spoken : (k : ℕ) (e : Decl Term) → slice_get after k ≡ Some e → (slice_get metas k ≡ Some e) ⊎ ((j : ℕ) → occurs_in j (parts (decl_of (λ t. t) e)) ≡ true → IsNear metas X j)

abbrev pub UnifyingHasFootprint : Type 0
UnifyingHasFootprint = (Δ : Env) (metas after : Plain) (d n left : ℕ) (a b : Term) → IsLegalMetas Δ (rules_metas metas) → Known (reach Δ metas) a → Known (reach Δ metas) b → unify Δ metas d a b n ≡ Gave after left → HasFootprint metas after (none ▹ a ▹ b)

-- What settling may change is what the metavariable and the value depend on; the metavariable itself, which gets the value, is among it.
abbrev pub SettlingHasFootprint : Type 0
SettlingHasFootprint = (Δ : Env) (metas after : Plain) (m n left : ℕ) (v : Term) → IsLegalMetas Δ (rules_metas metas) → settle Δ metas m v n ≡ Gave after left → HasFootprint metas after (none ▹ Meta m none ▹ v)
