-- Calls that spend units of fuel, with refusals of any kind. A call is a function of the units that it may spend.
use Rattle.std.specs.Prelude.{ℕ, zero, suc, Bool, true, false}
use Rattle.conversion.specs.Runs.{Refusal as KernelRefusal, Run, Outcome as KernelOutcome}
use Rattle.conversion.specs.Runs as kernel

-- a value or a refusal with the units that are left, or no unit where one was to be spent
pub data Outcome (R A : Type 0) : Type 0 where
  Gave : A → ℕ → Outcome R A
  Refused : R → ℕ → Outcome R A
  OutOfFuel : Outcome R A

abbrev pub Step : Type 0 → Type 0 → Type 0
Step R A = ℕ → Outcome R A

abbrev pub pure : {R A : Type 0} → A → Step R A
pure a n = Gave a n

abbrev pub refuse : {R A : Type 0} → R → Step R A
refuse r n = Refused r n

-- one unit
abbrev pub spend : {R : Type 0} → Step R (Unit {0})
spend zero = OutOfFuel
spend (suc n) = Gave tt n

-- so many units
abbrev pub spend_each : {R : Type 0} → ℕ → Step R (Unit {0})
spend_each zero n = Gave tt n
spend_each (suc k) zero = OutOfFuel
spend_each (suc k) (suc n) = spend_each k n

abbrev pub go_on : {R A B : Type 0} → Outcome R A → (A → Step R B) → Outcome R B
go_on (Gave a n) f = f a n
go_on (Refused r n) f = Refused r n
go_on OutOfFuel f = OutOfFuel

-- one call after another, which begins with the units that the first one leaves
abbrev pub ◌>>=◌ : {R A B : Type 0} → Step R A → (A → Step R B) → Step R B
◌>>=◌ m f n = go_on (m n) f

abbrev pub ◌>>◌ : {R A B : Type 0} → Step R A → Step R B → Step R B
◌>>◌ m k n = go_on (m n) (λ _. k)

infixr 20 ◌>>◌
infixl 20 ◌>>=◌
abbrev pub choose : {R A : Type 0} → Bool → Step R A → Step R A → Step R A
choose true a b = a
choose false a b = b

-- what a test asks, or a refusal
abbrev pub demand : {R : Type 0} → Bool → R → Step R (Unit {0})
demand true r = pure tt
demand false r = refuse r

abbrev pub retry : {R A : Type 0} → Outcome R A → (R → Step R A) → Outcome R A
retry (Gave a n) f = Gave a n
retry (Refused r n) f = f r n
retry OutOfFuel f = OutOfFuel

-- where a call is refused, it is given up, and another one goes on with the units that are left; want of fuel is the answer of both
abbrev pub or_else : {R A : Type 0} → Step R A → (R → Step R A) → Step R A
or_else m f n = retry (m n) f

abbrev pub renamed : {Q R A : Type 0} → (Q → R) → Outcome Q A → Outcome R A
renamed f (Gave a n) = Gave a n
renamed f (Refused q n) = Refused (f q) n
renamed f OutOfFuel = OutOfFuel

-- a call whose refusals are those of another kind
abbrev pub with_refusals : {Q R A : Type 0} → (Q → R) → Step Q A → Step R A
with_refusals f m n = renamed f (m n)

abbrev pub ran : {R A : Type 0} → (KernelRefusal → R) → KernelOutcome A → Outcome R A
ran f (kernel.Gave a n) = Gave a n
ran f (kernel.Refused q n) = Refused (f q) n
ran f kernel.OutOfFuel = OutOfFuel

-- a call of the kernel
abbrev pub kernel_call : {R A : Type 0} → (KernelRefusal → R) → Run A → Step R A
kernel_call f m n = ran f (m n)
