-- Calls that give the same, and whose values have a property.
use Rattle.std.proofs.Common.{◌≡◌, ℕ, zero, suc, Bool, true, false, refl, ap, ◌∙◌}
use Rattle.conversion.specs.Runs.{◌>>=◌, ◌>>◌, Run, pure, refuse, Refusal, spend, choose, go_on, Outcome, Gave, Refused, OutOfFuel, or_refuse, other_refusal}
use Rattle.conversion.proofs.Values.{Ensures, ensures_pure, ensures_refuse, ensures_spend, ensures_bind, ensures_or_refuse}

pub record Same {A : Type 0} (P : A → Type 0) (m l : Run A) : Type 0 where
  pub equal : (n : ℕ) → m n ≡ l n
  pub ensures : Ensures m P

-- no property
abbrev pub Any : {A : Type 0} → A → Type 0
Any x = Unit {0}

pub same_pure : {A : Type 0} (P : A → Type 0) (x : A) → P x → Same P (pure x) (pure x)
same_pure P x h = record { equal = λ n. refl; ensures = ensures_pure P x h }

pub same_refuse : {A : Type 0} (P : A → Type 0) (r : Refusal) → Same P (refuse r) (refuse r)
same_refuse P r = record { equal = λ n. refl; ensures = ensures_refuse P r }

pub same_spend : {A : Type 0} (P : A → Type 0) (m l : Run A) → Same P m l → Same P (spend >> m) (spend >> l)
same_spend P m l s = record { equal = elim [ zero ↦ refl | suc n ↦ s.equal n ]; ensures = ensures_spend P m s.ensures }

pub same_choose : {A : Type 0} (P : A → Type 0) (b : Bool) (m l m' l' : Run A) → (b ≡ true → Same P m m') → (b ≡ false → Same P l l') → Same P (choose b m l) (choose b m' l')
same_choose P true m l m' l' f g = f refl
same_choose P false m l m' l' f g = g refl

pub same_bind : {A B : Type 0} (P : A → Type 0) (Q : B → Type 0) (m l : Run A) (f g : A → Run B) → Same P m l → ((x : A) → P x → Same Q (f x) (g x)) → Same Q (m >>= f) (l >>= g)
same_bind {A} {B} P Q m l f g s h = record {
  equal = λ n. go n (m n) refl ∙ ap (λ o. go_on o g) (s.equal n);
  ensures = ensures_bind P Q m f s.ensures (λ x p. (h x p).ensures);
}
  where
    go : (n : ℕ) (o : Outcome A) → m n ≡ o → go_on o f ≡ go_on o g
    go n (Gave x k) e = (h x (s.ensures n k x e)).equal k
    go n (Refused r k) e = refl
    go n OutOfFuel e = refl

pub same_or_refuse : {A : Type 0} (P : A → Type 0) (m l : Run A) (q : Refusal) → Same P m l → Same P (or_refuse m q) (or_refuse l q)
same_or_refuse P m l q s = record { equal = λ n. ap (other_refusal q) (s.equal n); ensures = ensures_or_refuse P m q s.ensures }
