-- What a call of an engine answers, as the definitions say.
use Rattle.std.specs.Prelude.{◌≡◌, ℕ, Result, Ok, Err}
use Rattle.ld_terms.specs.declared.halt.Halt.{Halt}
use Rattle.ld_terms.specs.declared.halt.Halt.TheVariants.{Fuel, Memory}
use Rattle.conversion.specs.Runs.{Outcome, Gave, OutOfFuel}

-- the value with the units left, or want of fuel, after which no unit is left; want of memory may come at any time
abbrev pub IsAnswer : {A B : Type 0} → (B → A) → Outcome A → ℕ → Result B Halt → Type 0
IsAnswer value o left (Ok r) = o ≡ Gave (value r) left
IsAnswer value o left (Err Fuel) = (o ≡ OutOfFuel) × (left ≡ 0)
IsAnswer value o left (Err Memory) = Unit {0}
