-- The laws of weak head form and conversion that this crate proves. Each holds for all environments and terms.
use Rattle.std.specs.Prelude.{◌≡◌, ◌≢◌, ℕ, ◌-◌, ◌<◌, ◌≤◌, min, true}
use Rattle.ld_trees.specs.Term.{Term, Srt, Var, App, Lam, Pi, Con, nodes}
use Rattle.ld_rules.specs.Environment.{Env}
use Rattle.ld_rules.specs.Reduction.{Equal}
use Rattle.ld_rules.specs.ScopedItems.{IsScopedAt, HasScopedItems}
use Rattle.conversion.specs.Runs.{Refusal, Outcome, Gave, Refused, OutOfFuel, Run}
use Rattle.conversion.specs.WeakHead.{whnf}
use Rattle.conversion.specs.Conversion.{conv, conv_step}

-- an answer that used u units: with i units, of which i - u are then left, the same answer, and no answer with fewer than u
abbrev pub Covers : {A : Type 0} → Run A → (ℕ → Outcome A) → ℕ → ℕ → Type 0
Covers m answer u i = (u ≤ i → m i ≡ answer (i - u)) × (i < u → m i ≡ OutOfFuel)

-- the fuel law of a call: an answer with n units of which some are left tells what every other number of units gives
abbrev pub FuelLaw : {A : Type 0} → Run A → Type 0
FuelLaw {A} m = (n left i : ℕ) → ((x : A) → m n ≡ Gave x left → Covers m (Gave x) (n - left) i) × ((r : Refusal) → m n ≡ Refused r left → Covers m (Refused r) (n - left) i)

abbrev pub WeakHeadFormHasFuelLaw : Type 0
WeakHeadFormHasFuelLaw = (Δ : Env) (t : Term) → FuelLaw (whnf Δ t)

abbrev pub ConversionHasFuelLaw : Type 0
ConversionHasFuelLaw = (Δ : Env) (a b : Term) → FuelLaw (conv Δ a b)

-- conversion is a step over the conversion of parts: the bound on its levels makes no difference
abbrev pub ConversionUnfolds : Type 0
ConversionUnfolds = (Δ : Env) (a b : Term) (n : ℕ) → conv Δ a b n ≡ conv_step Δ (conv Δ) a b n

-- a weak head form is βδ-equal to its term
abbrev pub WeakHeadFormIsEqual : Type 0
WeakHeadFormIsEqual = (Δ : Env) (t t' : Term) (n left : ℕ) → whnf Δ t n ≡ Gave t' left → Equal Δ t t'

-- where the items of the environment are scoped, the weak head form of a scoped term is scoped at the same depth
abbrev pub WeakHeadFormIsScoped : Type 0
WeakHeadFormIsScoped = (Δ : Env) (m : ℕ) (t t' : Term) (n left : ℕ) → HasScopedItems Δ → IsScopedAt Δ m t → whnf Δ t n ≡ Gave t' left → IsScopedAt Δ m t'

-- a Yes of conversion means that the terms are βδ-equal
abbrev pub YesMeansEqual : Type 0
YesMeansEqual = (Δ : Env) (a b : Term) (n left : ℕ) → conv Δ a b n ≡ Gave true left → Equal Δ a b

-- ---- terms without redexes, constants and metavariables

abbrev pub IsNoAbstraction : Term → Type 0
IsNoAbstraction (Lam A M) = ⊥
IsNoAbstraction _ = Unit {0}

abbrev pub IsPlain : Term → Type 0
IsPlain (Srt s) = Unit {0}
IsPlain (Var i) = Unit {0}
IsPlain (App f a) = IsNoAbstraction f × IsPlain f × IsPlain a
IsPlain (Lam A M) = IsPlain A × IsPlain M
IsPlain (Pi A B) = IsPlain A × IsPlain B
IsPlain (Con h us) = ⊥

-- their conversion has an answer wherever the units are at least the nodes of the smaller term
abbrev pub PlainIsCheap : Type 0
PlainIsCheap = (Δ : Env) (a b : Term) (n : ℕ) → IsPlain a → IsPlain b → min (nodes a) (nodes b) ≤ n → conv Δ a b n ≢ OutOfFuel
