-- Calls that spend units of fuel. A call is a function of the units that it may spend.
use Rattle.std.specs.Prelude.{ℕ, zero, suc, Bool, true, false}
use Rattle.ld_trees.specs.Term.{Term}

-- why a call of the kernel gives no value; depth is the length of the context in which the terms stand
pub data Refusal : Type 0 where
  -- a term that was to be a type is none
  NotType : (depth : ℕ) (term : Term) → Refusal
  -- a term that is applied, with its type, which is no function type
  NotFunction : (depth : ℕ) (term found : Term) → Refusal
  -- a type that was found where another was wanted
  Mismatch : (depth : ℕ) (found wanted : Term) → Refusal
  -- a type and its weak head form, which has no sort
  ReductIllTyped : (depth : ℕ) (term reduct : Term) → Refusal

-- a value or a refusal with the units that are left, or no unit where one was to be spent
pub data Outcome (A : Type 0) : Type 0 where
  Gave : A → ℕ → Outcome A
  Refused : Refusal → ℕ → Outcome A
  OutOfFuel : Outcome A

abbrev pub Run : Type 0 → Type 0
Run A = ℕ → Outcome A

abbrev pub pure : {A : Type 0} → A → Run A
pure a n = Gave a n

abbrev pub refuse : {A : Type 0} → Refusal → Run A
refuse r n = Refused r n

-- one unit
abbrev pub spend : Run (Unit {0})
spend zero = OutOfFuel
spend (suc n) = Gave tt n

abbrev pub go_on : {A B : Type 0} → Outcome A → (A → Run B) → Outcome B
go_on (Gave a n) f = f a n
go_on (Refused r n) f = Refused r n
go_on OutOfFuel f = OutOfFuel

-- one call after another, which begins with the units that the first one leaves
abbrev pub ◌>>=◌ : {A B : Type 0} → Run A → (A → Run B) → Run B
◌>>=◌ m f n = go_on (m n) f

abbrev pub ◌>>◌ : {A B : Type 0} → Run A → Run B → Run B
◌>>◌ m k n = go_on (m n) (λ _. k)

-- another refusal in place of each
abbrev pub other_refusal : {A : Type 0} → Refusal → Outcome A → Outcome A
other_refusal q (Gave a n) = Gave a n
other_refusal q (Refused r n) = Refused q n
other_refusal q OutOfFuel = OutOfFuel

abbrev pub or_refuse : {A : Type 0} → Run A → Refusal → Run A
or_refuse m q n = other_refusal q (m n)

abbrev pub choose : {A : Type 0} → Bool → Run A → Run A → Run A
choose true a b = a
choose false a b = b

infixr 20 ◌>>◌
infixl 20 ◌>>=◌
