-- The fuel law's closure under the words of calls, and calls that agree below a number of units.
use Rattle.std.proofs.Common.{◌≡◌, ℕ, zero, suc, ◌+◌, ◌-◌, ◌<◌, ◌≤◌, Bool, true, false, refl, sym, ap, ◌∙◌, subst, arith, ◌⊎◌, ⊎_elim}
use Rattle.conversion.specs.Runs.{Refusal, Outcome, Gave, Refused, OutOfFuel, Run, pure, refuse, spend, go_on, ◌>>=◌, ◌>>◌, or_refuse, other_refusal, choose}
use Rattle.conversion.specs.Laws.{FuelLaw}

-- an answer with k units left from n: the same from every number of units that covers the cost, and none below it
abbrev pub LawAt : {A : Type 0} → Run A → ℕ → Outcome A → Type 0
LawAt m n (Gave x k) = (c : ℕ) × (n ≡ c + k) × ((i j : ℕ) → i ≡ c + j → m i ≡ Gave x j) × ((i : ℕ) → i < c → m i ≡ OutOfFuel)
LawAt m n (Refused r k) = (c : ℕ) × (n ≡ c + k) × ((i j : ℕ) → i ≡ c + j → m i ≡ Refused r j) × ((i : ℕ) → i < c → m i ≡ OutOfFuel)
LawAt m n OutOfFuel = Unit {0}

abbrev pub Lawful : {A : Type 0} → Run A → Type 0
Lawful m = (n : ℕ) → LawAt m n (m n)

pub lawful_pure : {A : Type 0} (x : A) → Lawful (pure x)
lawful_pure x n = (0, omega arith, λ i j e. ap (Gave x) (omega arith), λ i l. absurd (omega arith))

pub lawful_refuse : {A : Type 0} (r : Refusal) → Lawful {A = A} (refuse r)
lawful_refuse r n = (0, omega arith, λ i j e. ap (Refused r) (omega arith), λ i l. absurd (omega arith))

-- one unit more
pub law_suc : {A : Type 0} (m k : Run A) (n : ℕ) (o : Outcome A) → m 0 ≡ OutOfFuel → ((i : ℕ) → m (suc i) ≡ k i) → LawAt k n o → LawAt m (suc n) o
law_suc m k n (Gave x l) z e h =
    (suc h.0, omega (arith, h.1), elim [ zero ↦ λ j p. absurd (omega arith) | suc i ↦ λ j p. e i ∙ h.2 i j (omega arith) ], elim [ zero ↦ λ p. z | suc i ↦ λ p. e i ∙ h.3 i (omega arith) ])
law_suc m k n (Refused x l) z e h =
    (suc h.0, omega (arith, h.1), elim [ zero ↦ λ j p. absurd (omega arith) | suc i ↦ λ j p. e i ∙ h.2 i j (omega arith) ], elim [ zero ↦ λ p. z | suc i ↦ λ p. e i ∙ h.3 i (omega arith) ])
law_suc m k n OutOfFuel z e h = tt

pub lawful_spend : {A : Type 0} (k : Run A) → Lawful k → Lawful (spend >> k)
lawful_spend k h zero = tt
lawful_spend k h (suc n) = law_suc (spend >> k) k n (k n) refl (λ i. refl) (h n)

below_or : (c i : ℕ) → (i < c) ⊎ (c ≤ i)
below_or c i = grind arith

module _ {A B : Type 0} (m : Run A) (f : A → Run B) where
  -- what is left after the first call is what the second begins with
  bind_gave : (n k l c : ℕ) (x : A) (y : B) → n ≡ c + k → ((i j : ℕ) → i ≡ c + j → m i ≡ Gave x j) → ((i : ℕ) → i < c → m i ≡ OutOfFuel) → LawAt (f x) k (Gave y l) → LawAt (m >>= f) n (Gave y l)
  bind_gave n k l c x y e enough fewer h =
      (c + h.0, omega (arith, h.1), λ i j p. ap (λ o. go_on o f) (enough i (h.0 + j) (omega arith)) ∙ h.2 (h.0 + j) j refl, λ i p. ⊎_elim (λ q. ap (λ o. go_on o f) (fewer i q)) (λ q. ap (λ o. go_on o f) (enough i (i - c) (omega arith)) ∙ h.3 (i - c) (omega arith)) (below_or c i))

  bind_refused : (n k l c : ℕ) (x : A) (y : Refusal) → n ≡ c + k → ((i j : ℕ) → i ≡ c + j → m i ≡ Gave x j) → ((i : ℕ) → i < c → m i ≡ OutOfFuel) → LawAt (f x) k (Refused y l) → LawAt (m >>= f) n (Refused y l)
  bind_refused n k l c x y e enough fewer h =
      (c + h.0, omega (arith, h.1), λ i j p. ap (λ o. go_on o f) (enough i (h.0 + j) (omega arith)) ∙ h.2 (h.0 + j) j refl, λ i p. ⊎_elim (λ q. ap (λ o. go_on o f) (fewer i q)) (λ q. ap (λ o. go_on o f) (enough i (i - c) (omega arith)) ∙ h.3 (i - c) (omega arith)) (below_or c i))

  bind_then : (n k c : ℕ) (x : A) (o : Outcome B) → n ≡ c + k → ((i j : ℕ) → i ≡ c + j → m i ≡ Gave x j) → ((i : ℕ) → i < c → m i ≡ OutOfFuel) → LawAt (f x) k o → LawAt (m >>= f) n o
  bind_then n k c x (Gave y l) e enough fewer h = bind_gave n k l c x y e enough fewer h
  bind_then n k c x (Refused y l) e enough fewer h = bind_refused n k l c x y e enough fewer h
  bind_then n k c x OutOfFuel e enough fewer h = tt

  bind_first : (n : ℕ) (o : Outcome A) → ((x : A) → Lawful (f x)) → LawAt m n o → LawAt (m >>= f) n (go_on o f)
  bind_first n (Gave x k) lf h = bind_then n k h.0 x (f x k) h.1 h.2 h.3 (lf x k)
  bind_first n (Refused r k) lf h = (h.0, h.1, λ i j e. ap (λ o. go_on o f) (h.2 i j e), λ i l. ap (λ o. go_on o f) (h.3 i l))
  bind_first n OutOfFuel lf h = tt

  pub lawful_bind : Lawful m → ((x : A) → Lawful (f x)) → Lawful (m >>= f)
  lawful_bind lm lf n = bind_first n (m n) lf (lm n)

pub lawful_choose : {A : Type 0} (b : Bool) (m k : Run A) → Lawful m → Lawful k → Lawful (choose b m k)
lawful_choose true m k h l = h
lawful_choose false m k h l = l

or_refuse_at : {A : Type 0} (m : Run A) (q : Refusal) (n : ℕ) (o : Outcome A) → LawAt m n o → LawAt (or_refuse m q) n (other_refusal q o)
or_refuse_at m q n (Gave x k) h = (h.0, h.1, λ i j e. ap (other_refusal q) (h.2 i j e), λ i l. ap (other_refusal q) (h.3 i l))
or_refuse_at m q n (Refused r k) h = (h.0, h.1, λ i j e. ap (other_refusal q) (h.2 i j e), λ i l. ap (other_refusal q) (h.3 i l))
or_refuse_at m q n OutOfFuel h = tt

pub lawful_or_refuse : {A : Type 0} (m : Run A) (q : Refusal) → Lawful m → Lawful (or_refuse m q)
lawful_or_refuse m q h n = or_refuse_at m q n (m n) (h n)

-- Two calls agree below a number of units.
abbrev pub Below : {A : Type 0} → ℕ → Run A → Run A → Type 0
Below u m k = (n : ℕ) → n < u → m n ≡ k n

pub below_spend : {A : Type 0} (u : ℕ) (m k : Run A) → Below u m k → Below (suc u) (spend >> m) (spend >> k)
below_spend u m k h zero l = refl
below_spend u m k h (suc n) l = h n (omega arith)

pub below_choose : {A : Type 0} (u : ℕ) (b : Bool) (m m' k k' : Run A) → Below u m m' → Below u k k' → Below u (choose b m k) (choose b m' k')
below_choose u true m m' k k' h l = h
below_choose u false m m' k k' h l = l

below_bind_at : {A B : Type 0} (u n : ℕ) (m : Run A) (f g : A → Run B) (o : Outcome A) → n < u → LawAt m n o → ((x : A) → Below u (f x) (g x)) → go_on o f ≡ go_on o g
below_bind_at u n m f g (Gave x k) l h fg = fg x k (omega (arith, h.1))
below_bind_at u n m f g (Refused r k) l h fg = refl
below_bind_at u n m f g OutOfFuel l h fg = refl

pub below_bind : {A B : Type 0} (u : ℕ) (m k : Run A) (f g : A → Run B) → Lawful m → Below u m k → ((x : A) → Below u (f x) (g x)) → Below u (m >>= f) (k >>= g)
below_bind u m k f g lm h fg n l = below_bind_at u n m f g (m n) l (lm n) fg ∙ ap (λ o. go_on o g) (h n l)

pub below_same : {A : Type 0} (u : ℕ) (m : Run A) → Below u m m
below_same u m n l = refl

-- a call at each depth that is lawful, and the depth makes no difference: so the call at its own units is lawful
module _ {A : Type 0} (m : ℕ → Run A) (lm : (g : ℕ) → Lawful (m g)) (bm : (u g k : ℕ) → u ≤ suc g → u ≤ suc k → Below u (m g) (m k)) where
  deeper : (i g : ℕ) → i ≤ g → m i i ≡ m g i
  deeper i g l = bm (suc i) i g (omega arith) (omega arith) i (omega arith)

  depth_at : (n : ℕ) (o : Outcome A) → m n n ≡ o → LawAt (λ i. m i i) n o
  depth_at n (Gave x k) e =
      let h : (g : ℕ) → n ≤ g → LawAt (m g) n (Gave x k) = λ g l. subst (LawAt (m g) n) (sym (deeper n g l) ∙ e) (lm g n) in
      let c = h n (omega arith) in
      (c.0, c.1, λ i j p. let d = h (n + i) (omega arith) in deeper i (n + i) (omega arith) ∙ d.2 i j (omega (arith, c.1, d.1)), λ i l. let d = h (n + i) (omega arith) in deeper i (n + i) (omega arith) ∙ d.3 i (omega (arith, c.1, d.1)))
  depth_at n (Refused x k) e =
      let h : (g : ℕ) → n ≤ g → LawAt (m g) n (Refused x k) = λ g l. subst (LawAt (m g) n) (sym (deeper n g l) ∙ e) (lm g n) in
      let c = h n (omega arith) in
      (c.0, c.1, λ i j p. let d = h (n + i) (omega arith) in deeper i (n + i) (omega arith) ∙ d.2 i j (omega (arith, c.1, d.1)), λ i l. let d = h (n + i) (omega arith) in deeper i (n + i) (omega arith) ∙ d.3 i (omega (arith, c.1, d.1)))
  depth_at n OutOfFuel e = tt

  pub lawful_depth : Lawful (λ i. m i i)
  lawful_depth n = depth_at n (m n n) refl

-- the fuel law as it is stated
pub fuel_law : {A : Type 0} (m : Run A) → Lawful m → FuelLaw m
fuel_law m lm n left i =
    (λ x e. let h : LawAt m n (Gave x left) = subst (LawAt m n) e (lm n) in (λ l. h.2 i (i - (n - left)) (omega (arith, h.1)), λ l. h.3 i (omega (arith, h.1))), λ r e. let h : LawAt m n (Refused r left) = subst (LawAt m n) e (lm n) in (λ l. h.2 i (i - (n - left)) (omega (arith, h.1)), λ l. h.3 i (omega (arith, h.1))))
