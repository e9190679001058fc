-- What holds of every value that a call gives.
use Rattle.std.proofs.Common.{◌≡◌, ℕ, zero, suc, Bool, true, false, refl, ◌∙◌, subst}
use Rattle.conversion.specs.Runs as kernel
use Rattle.unification.specs.Steps.{Outcome, Gave, Refused, OutOfFuel, Step, pure, refuse, spend, go_on, ◌>>=◌, ◌>>◌, choose, demand, retry, or_else, ran, kernel_call}

pub data Gives {R A : Type 0} (P : A → Type 0) (m : Step R A) : Type 0 where
  gives : ((n k : ℕ) (x : A) → m n ≡ Gave x k → P x) → Gives P m

pub given : {R A : Type 0} {P : A → Type 0} {m : Step R A} → Gives P m → (n k : ℕ) (x : A) → m n ≡ Gave x k → P x
given (gives h) = h

pub gives_pure : {R A : Type 0} {P : A → Type 0} (x : A) → P x → Gives {R = R} P (pure x)
gives_pure {P = P} x h = gives (λ n k y e. subst P (let q : x ≡ y = cc in q) h)

pub gives_refuse : {R A : Type 0} {P : A → Type 0} (r : R) → Gives {A = A} P (refuse r)
gives_refuse r = gives (λ n k x e. absurd cc)

pub gives_less : {R A : Type 0} {P Q : A → Type 0} {m : Step R A} → ((x : A) → P x → Q x) → Gives P m → Gives Q m
gives_less f h = gives (λ n k x e. f x (given h n k x e))

-- the value, with the run that gave it
pub gives_run : {R A : Type 0} {P : A → Type 0} {m : Step R A} → Gives P m → Gives (λ x. P x × ((n : ℕ) × (k : ℕ) × (m n ≡ Gave x k))) m
gives_run h = gives (λ n k x e. (given h n k x e, (n, k, e)))

pub gives_choose : {R A : Type 0} {P : A → Type 0} (b : Bool) {m l : Step R A} → (b ≡ true → Gives P m) → (b ≡ false → Gives P l) → Gives P (choose b m l)
gives_choose true h g = h refl
gives_choose false h g = g refl

pub gives_bind : {R A B : Type 0} {P : A → Type 0} {Q : B → Type 0} {m : Step R A} {f : A → Step R B} → Gives P m → ((x : A) → P x → Gives Q (f x)) → Gives Q (m >>= f)
gives_bind {R} {A} {B} {P} {Q} {m} {f} h g = gives (λ n k y. go n k y (m n) refl)
  where
    go : (n k : ℕ) (y : B) (o : Outcome R A) → m n ≡ o → go_on o f ≡ Gave y k → Q y
    go n k y (Gave x l) e p = given (g x (given h n l x e)) l k y p
    go n k y (Refused r l) e p = absurd cc
    go n k y OutOfFuel e p = absurd cc

pub gives_then : {R A B : Type 0} {P : A → Type 0} {Q : B → Type 0} {m : Step R A} {l : Step R B} → Gives P m → ((x : A) → P x → Gives Q l) → Gives Q (m >> l)
gives_then {R} {A} {B} {P} {Q} {m} {l} h g = gives (λ n k y. go n k y (m n) refl)
  where
    go : (n k : ℕ) (y : B) (o : Outcome R A) → m n ≡ o → go_on o (λ _. l) ≡ Gave y k → Q y
    go n k y (Gave x j) e p = given (g x (given h n j x e)) j k y p
    go n k y (Refused r j) e p = absurd cc
    go n k y OutOfFuel e p = absurd cc

pub gives_any : {R A : Type 0} (m : Step R A) → Gives (λ x. Unit {0}) m
gives_any m = gives (λ n k x e. tt)

pub gives_demand : {R B : Type 0} {Q : B → Type 0} (b : Bool) (r : R) {l : Step R B} → (b ≡ true → Gives Q l) → Gives Q (demand b r >> l)
gives_demand true r h = gives (λ n k x e. given (h refl) n k x e)
gives_demand false r h = gives (λ n k x e. absurd cc)

pub gives_spend : {R B : Type 0} {Q : B → Type 0} {l : Step R B} → Gives Q l → Gives Q (spend >> l)
gives_spend {R} {B} {Q} {l} h = gives go
  where
    go : (n k : ℕ) (x : B) → go_on (spend n) (λ _. l) ≡ Gave x k → Q x
    go zero k x e = absurd cc
    go (suc n) k x e = given h n k x e

pub gives_or_else : {R A : Type 0} {P : A → Type 0} {m : Step R A} {f : R → Step R A} → Gives P m → ((r : R) → Gives P (f r)) → Gives P (or_else m f)
gives_or_else {R} {A} {P} {m} {f} h g = gives (λ n k y. go n k y (m n) refl)
  where
    go : (n k : ℕ) (y : A) (o : Outcome R A) → m n ≡ o → retry o f ≡ Gave y k → P y
    go n k y (Gave x j) e p = given h n k y (e ∙ p)
    go n k y (Refused r j) e p = given (g r) j k y p
    go n k y OutOfFuel e p = absurd cc

-- a call of the kernel
pub gives_kernel : {R A : Type 0} {P : A → Type 0} (f : kernel.Refusal → R) {m : kernel.Run A} → ((n k : ℕ) (x : A) → m n ≡ kernel.Gave x k → P x) → Gives P (kernel_call f m)
gives_kernel {R} {A} {P} f {m} h = gives (λ n k y. go n k y (m n) refl)
  where
    go : (n k : ℕ) (y : A) (o : kernel.Outcome A) → m n ≡ o → ran f o ≡ Gave y k → P y
    go n k y (kernel.Gave x j) e p = subst P (let q : x ≡ y = cc in q) (h n j x e)
    go n k y (kernel.Refused r j) e p = absurd cc
    go n k y kernel.OutOfFuel e p = absurd cc
