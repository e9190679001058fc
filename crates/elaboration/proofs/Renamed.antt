-- Calls whose refusals are those of another kind: what they give, and their fuel law.
use Rattle.std.proofs.Common.{◌≡◌, ℕ, refl, ap, subst}
use Rattle.unification.specs.Steps.{Outcome, Gave, Refused, OutOfFuel, Step, renamed, with_refusals}
use Rattle.unification.proofs.Gives.{Gives, gives, given}
use Rattle.unification.proofs.Words.{Law, law, lawful, LawAt}

pub gives_renamed : {Q R A : Type 0} {P : A → Type 0} (f : Q → R) {m : Step Q A} → Gives P m → Gives P (with_refusals f m)
gives_renamed {Q} {R} {A} {P} f {m} h = gives (λ n k y. go n k y (m n) refl)
  where
    go : (n k : ℕ) (y : A) (o : Outcome Q A) → m n ≡ o → renamed f o ≡ Gave y k → P y
    go n k y (Gave x j) e p = subst P (let q : x ≡ y = cc in q) (given h n j x e)
    go n k y (Refused r j) e p = absurd cc
    go n k y OutOfFuel e p = absurd cc

renamed_at : {Q R A : Type 0} (f : Q → R) (m : Step Q A) (n : ℕ) (o : Outcome Q A) → LawAt m n o → LawAt (with_refusals f m) n (renamed f o)
renamed_at f m n (Gave x k) h = (h.0, h.1, λ i j e. ap (renamed f) (h.2 i j e), λ i l. ap (renamed f) (h.3 i l))
renamed_at f m n (Refused r k) h = (h.0, h.1, λ i j e. ap (renamed f) (h.2 i j e), λ i l. ap (renamed f) (h.3 i l))
renamed_at f m n OutOfFuel h = tt

pub law_renamed : {Q R A : Type 0} (f : Q → R) {m : Step Q A} → Law m → Law (with_refusals f m)
law_renamed f {m = m} h = law (λ n. renamed_at f m n (m n) (lawful h n))
