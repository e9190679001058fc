-- The laws of inference that this crate proves. Each holds for all environments, contexts and terms.
use Rattle.std.specs.Prelude.{◌≡◌, ℕ}
use Rattle.ld_trees.specs.Term.{Sort, Term, Srt}
use Rattle.ld_rules.specs.Environment.{Ctx, Env}
use Rattle.ld_rules.specs.Derivation.{Derives}
use Rattle.ld_rules.specs.Legality.{IsLegal}
use Rattle.ld_rules.specs.Scoping.{IsScoped}
use Rattle.ld_rules.specs.ScopedItems.{AreScoped}
use Rattle.conversion.specs.Runs.{Refusal, Gave, Refused}
use Rattle.conversion.specs.Laws.{FuelLaw}
use Rattle.kernel_check.specs.Inference.{infer, infer_sort}
use Rattle.kernel_check.specs.ScopedFaults.{RefusalIsShown}

-- more units give the same answer with as many more left, and fewer than were used give none
abbrev pub InferenceHasFuelLaw : Type 0
InferenceHasFuelLaw = (Δ : Env) (Γ : Ctx) (t : Term) → FuelLaw (infer Δ Γ t)

abbrev pub SortHasFuelLaw : Type 0
SortHasFuelLaw = (Δ : Env) (Γ : Ctx) (t : Term) → FuelLaw (infer_sort Δ Γ t)

-- in a legal environment and context the type that is inferred for a term is one that the rules give it
abbrev pub InferenceIsSound : Type 0
InferenceIsSound = (Δ : Env) (Γ : Ctx) (t T : Term) (n left : ℕ) → IsLegal Δ Γ → infer Δ Γ t n ≡ Gave T left → Derives Δ Γ t T

-- and so is the sort that is inferred
abbrev pub SortIsSound : Type 0
SortIsSound = (Δ : Env) (Γ : Ctx) (t : Term) (s : Sort) (n left : ℕ) → IsLegal Δ Γ → infer_sort Δ Γ t n ≡ Gave s left → Derives Δ Γ t (Srt s)

-- ---- scoping: of an environment and a context that are scoped, and a term that is scoped in them

-- the type that is inferred is scoped
abbrev pub InferenceIsScoped : Type 0
InferenceIsScoped = (Δ : Env) (Γ : Ctx) (t T : Term) (n left : ℕ) → AreScoped Δ Γ → IsScoped Δ Γ t → infer Δ Γ t n ≡ Gave T left → IsScoped Δ Γ T

-- each term that a refusal shows is scoped at the refusal's depth, which the term reaches
abbrev pub RefusalsAreScoped : Type 0
RefusalsAreScoped = (Δ : Env) (Γ : Ctx) (t : Term) (r : Refusal) (n left : ℕ) → AreScoped Δ Γ → IsScoped Δ Γ t → infer Δ Γ t n ≡ Refused r left → RefusalIsShown Δ Γ t r

abbrev pub SortRefusalsAreScoped : Type 0
SortRefusalsAreScoped = (Δ : Env) (Γ : Ctx) (t : Term) (r : Refusal) (n left : ℕ) → AreScoped Δ Γ → IsScoped Δ Γ t → infer_sort Δ Γ t n ≡ Refused r left → RefusalIsShown Δ Γ t r
