-- What holds of every value and of every refusal of a call.
use Rattle.std.proofs.Common.{◌≡◌, ℕ, zero, suc, Bool, true, false, refl}
use Rattle.conversion.specs.Runs.{Refusal, Outcome, Gave, Refused, OutOfFuel, Run, pure, refuse, spend, go_on, ◌>>=◌, ◌>>◌, or_refuse, other_refusal, choose}

-- one of them holds of an outcome
abbrev pub Holds : {A : Type 0} → (A → Type 0) → (Refusal → Type 0) → Outcome A → Type 0
Holds P Q (Gave x n) = P x
Holds P Q (Refused r n) = Q r
Holds P Q OutOfFuel = Unit {0}

abbrev pub Always : {A : Type 0} → Run A → (A → Type 0) → (Refusal → Type 0) → Type 0
Always m P Q = (n : ℕ) → Holds P Q (m n)

module _ {A : Type 0} (P : A → Type 0) (Q : Refusal → Type 0) where
  pub always_pure : (x : A) → P x → Always (pure x) P Q
  always_pure x h n = h

  pub always_refuse : (r : Refusal) → Q r → Always (refuse {A = A} r) P Q
  always_refuse r h n = h

  pub always_spend : (m : Run A) → Always m P Q → Always (spend >> m) P Q
  always_spend m h zero = tt
  always_spend m h (suc n) = h n

  pub always_choose : (b : Bool) (m l : Run A) → (b ≡ true → Always m P Q) → (b ≡ false → Always l P Q) → Always (choose b m l) P Q
  always_choose true m l h k = h refl
  always_choose false m l h k = k refl

  pub always_or_refuse : (R : Refusal → Type 0) (m : Run A) (q : Refusal) → Always m P R → Q q → Always (or_refuse m q) P Q
  always_or_refuse R m q h k n = go (m n) (h n)
    where
      go : (o : Outcome A) → Holds P R o → Holds P Q (other_refusal q o)
      go (Gave x l) p = p
      go (Refused r l) p = k
      go OutOfFuel p = tt

  pub always_more : (P' : A → Type 0) (Q' : Refusal → Type 0) (m : Run A) → ((x : A) → P x → P' x) → ((r : Refusal) → Q r → Q' r) → Always m P Q → Always m P' Q'
  always_more P' Q' m f g h n = go (m n) (h n)
    where
      go : (o : Outcome A) → Holds P Q o → Holds P' Q' o
      go (Gave x l) p = f x p
      go (Refused r l) p = g r p
      go OutOfFuel p = tt

pub always_bind : {A B : Type 0} (P : A → Type 0) (R : B → Type 0) (Q : Refusal → Type 0) (m : Run A) (f : A → Run B) → Always m P Q → ((x : A) → P x → Always (f x) R Q) → Always (m >>= f) R Q
always_bind {A} {B} P R Q m f h g n = go (m n) (h n)
  where
    go : (o : Outcome A) → Holds P Q o → Holds R Q (go_on o f)
    go (Gave x l) p = g x p l
    go (Refused r l) p = p
    go OutOfFuel p = tt

pub always_then : {A B : Type 0} (P : A → Type 0) (R : B → Type 0) (Q : Refusal → Type 0) (m : Run A) (k : Run B) → Always m P Q → Always k R Q → Always (m >> k) R Q
always_then P R Q m k h l = always_bind P R Q m (λ x. k) h (λ x p. l)
