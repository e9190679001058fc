-- What a call gave that went through.
use Rattle.std.proofs.Common.{◌≡◌, ℕ, refl}
use Rattle.unification.specs.Steps.{Outcome, Gave, Refused, OutOfFuel, Step, go_on}

pub bound : {R A B : Type 0} (o : Outcome R A) (f : A → Step R B) (y : B) (l : ℕ) → go_on o f ≡ Gave y l → (x : A) × (k : ℕ) × (o ≡ Gave x k) × (f x k ≡ Gave y l)
bound (Gave x k) f y l e = (x, k, refl, e)
bound (Refused r k) f y l e = absurd cc
bound OutOfFuel f y l e = absurd cc
