-- What holds of every value that a call gives.
use Rattle.std.proofs.Common.{◌≡◌, ℕ, zero, suc, Bool, true, false, refl, ◌∙◌, subst}
use Rattle.conversion.specs.Runs.{Refusal, Outcome, Gave, Refused, OutOfFuel, Run, pure, refuse, spend, go_on, ◌>>=◌, ◌>>◌, or_refuse, other_refusal, choose}

abbrev pub Ensures : {A : Type 0} → Run A → (A → Type 0) → Type 0
Ensures {A} m P = (n k : ℕ) (x : A) → m n ≡ Gave x k → P x

pub gave_inj : {A : Type 0} (x y : A) (n k : ℕ) → Gave x n ≡ Gave y k → x ≡ y
gave_inj x y n k p = cc

pub ensures_pure : {A : Type 0} (P : A → Type 0) (x : A) → P x → Ensures (pure x) P
ensures_pure P x h n k y e = subst P (gave_inj x y n k e) h

pub ensures_refuse : {A : Type 0} (P : A → Type 0) (r : Refusal) → Ensures (refuse r) P
ensures_refuse P r n k x e = absurd cc

pub ensures_spend : {A : Type 0} (P : A → Type 0) (m : Run A) → Ensures m P → Ensures (spend >> m) P
ensures_spend P m h zero k x e = absurd cc
ensures_spend P m h (suc n) k x e = h n k x e

pub ensures_choose : {A : Type 0} (P : A → Type 0) (b : Bool) (m l : Run A) → (b ≡ true → Ensures m P) → (b ≡ false → Ensures l P) → Ensures (choose b m l) P
ensures_choose P true m l h k = h refl
ensures_choose P false m l h k = k refl

pub ensures_bind : {A B : Type 0} (P : A → Type 0) (Q : B → Type 0) (m : Run A) (f : A → Run B) → Ensures m P → ((x : A) → P x → Ensures (f x) Q) → Ensures (m >>= f) Q
ensures_bind {A} {B} P Q m f h g n k y = go (m n) refl
  where
    go : (o : Outcome A) → m n ≡ o → go_on o f ≡ Gave y k → Q y
    go (Gave x l) e p = g x (h n l x e) l k y p
    go (Refused r l) e p = absurd cc
    go OutOfFuel e p = absurd cc

pub ensures_or_refuse : {A : Type 0} (P : A → Type 0) (m : Run A) (q : Refusal) → Ensures m P → Ensures (or_refuse m q) P
ensures_or_refuse {A} P m q h n k y = go (m n) refl
  where
    go : (o : Outcome A) → m n ≡ o → other_refusal q o ≡ Gave y k → P y
    go (Gave x l) e p = h n k y (e ∙ p)
    go (Refused r l) e p = absurd cc
    go OutOfFuel e p = absurd cc

pub ensures_less : {A : Type 0} (P Q : A → Type 0) (m : Run A) → ((x : A) → P x → Q x) → Ensures m P → Ensures m Q
ensures_less P Q m f h n k x e = f x (h n k x e)
