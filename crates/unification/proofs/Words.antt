-- The fuel law of calls and its closure under the words of calls, and calls that agree below a number of units.
use Rattle.std.proofs.Common.{◌≡◌, ℕ, zero, suc, ◌+◌, ◌-◌, ◌<◌, ◌≤◌, Bool, true, false, refl, sym, ap, ◌∙◌, subst, arith, ◌⊎◌, ⊎_elim}
use Rattle.conversion.specs.Runs.{Run, Refusal as KernelRefusal, Outcome as KernelOutcome}
use Rattle.conversion.specs.Runs as kernel
use Rattle.conversion.proofs.Runs as run
use Rattle.unification.specs.Steps.{Outcome, Gave, Refused, OutOfFuel, Step, pure, refuse, spend, spend_each, go_on, ◌>>=◌, ◌>>◌, choose, demand, retry, or_else, ran, kernel_call}
use Rattle.unification.specs.Laws.{FuelLaw}

-- ---- one answer

-- an answer with k units left from n: the same from every number of units that covers the cost, and none below it
abbrev pub Costs : {R A : Type 0} → Step R A → ℕ → ℕ → (ℕ → Outcome R A) → Type 0
Costs m n k answer = (c : ℕ) × (n ≡ c + k) × ((i j : ℕ) → i ≡ c + j → m i ≡ answer j) × ((i : ℕ) → i < c → m i ≡ OutOfFuel)

abbrev pub LawAt : {R A : Type 0} → Step R A → ℕ → Outcome R A → Type 0
LawAt m n (Gave x k) = Costs m n k (Gave x)
LawAt m n (Refused r k) = Costs m n k (Refused r)
LawAt m n OutOfFuel = Unit {0}

-- an answer without cost
free : {R A : Type 0} (answer : ℕ → Outcome R A) (n : ℕ) → Costs answer n n answer
free answer n = (0, omega arith, λ i j e. ap answer (omega arith), λ i l. absurd (omega arith))

below_or : (c i : ℕ) → (i < c) ⊎ (c ≤ i)
below_or c i = grind arith

-- a call w that is over where m has no unit
module _ {Q R A B : Type 0} (m : Step Q A) (w : Step R B) (short : (i : ℕ) → m i ≡ OutOfFuel → w i ≡ OutOfFuel) where
  -- it answers where m does
  costs_same : (n k : ℕ) (answer : ℕ → Outcome Q A) (answer' : ℕ → Outcome R B) → ((i j : ℕ) → m i ≡ answer j → w i ≡ answer' j) → Costs m n k answer → Costs w n k answer'
  costs_same n k answer answer' f h = (h.0, h.1, λ i j e. f i j (h.2 i j e), λ i l. short i (h.3 i l))

  -- it goes on with another call where m answers
  costs_after : (n k l : ℕ) (answer : ℕ → Outcome Q A) (next : Step R B) (last : ℕ → Outcome R B) → ((i j : ℕ) → m i ≡ answer j → w i ≡ next j) → Costs m n k answer → Costs next k l last → Costs w n l last
  costs_after n k l answer next last f h g =
      (h.0 + g.0, omega (arith, h.1, g.1), λ i j e. f i (g.0 + j) (h.2 i (g.0 + j) (omega arith)) ∙ g.2 (g.0 + j) j refl, λ i e. ⊎_elim (λ q. short i (h.3 i q)) (λ q. f i (i - h.0) (h.2 i (i - h.0) (omega arith)) ∙ g.3 (i - h.0) (omega arith)) (below_or h.0 i))

  law_after : (n k : ℕ) (answer : ℕ → Outcome Q A) (next : Step R B) (o : Outcome R B) → ((i j : ℕ) → m i ≡ answer j → w i ≡ next j) → Costs m n k answer → LawAt next k o → LawAt w n o
  law_after n k answer next (Gave y l) f h g = costs_after n k l answer next (Gave y) f h g
  law_after n k answer next (Refused r l) f h g = costs_after n k l answer next (Refused r) f h g
  law_after n k answer next OutOfFuel f h g = tt

-- ---- the law, as a type of its own, so that a call is found from its law

pub data Law {R A : Type 0} (m : Step R A) : Type 0 where
  law : ((n : ℕ) → LawAt m n (m n)) → Law m

pub lawful : {R A : Type 0} {m : Step R A} → Law m → (n : ℕ) → LawAt m n (m n)
lawful (law h) = h

pub law_pure : {R A : Type 0} (x : A) → Law {R = R} (pure x)
law_pure x = law (λ n. free (Gave x) n)

pub law_refuse : {R A : Type 0} (r : R) → Law {A = A} (refuse r)
law_refuse r = law (λ n. free (Refused r) n)

pub law_fuel : {R A : Type 0} → Law {R = R} {A = A} (λ n. OutOfFuel)
law_fuel = law (λ n. tt)

module _ {R A B : Type 0} (m : Step R A) (f : A → Step R B) where
  bind_at : (n : ℕ) (o : Outcome R A) → ((x : A) → Law (f x)) → LawAt m n o → LawAt (m >>= f) n (go_on o f)
  bind_at n (Gave x k) lf h = law_after m (m >>= f) (λ i e. ap (λ o. go_on o f) e) n k (Gave x) (f x) (f x k) (λ i j e. ap (λ o. go_on o f) e) h (lawful (lf x) k)
  bind_at n (Refused r k) lf h = costs_same m (m >>= f) (λ i e. ap (λ o. go_on o f) e) n k (Refused r) (Refused r) (λ i j e. ap (λ o. go_on o f) e) h
  bind_at n OutOfFuel lf h = tt

pub law_bind : {R A B : Type 0} {m : Step R A} {f : A → Step R B} → Law m → ((x : A) → Law (f x)) → Law (m >>= f)
law_bind {m = m} {f = f} h k = law (λ n. bind_at m f n (m n) k (lawful h n))

pub law_then : {R A B : Type 0} {m : Step R A} {k : Step R B} → Law m → Law k → Law (m >> k)
law_then {m = m} {k = k} h l = law (λ n. bind_at m (λ x. k) n (m n) (λ x. l) (lawful h n))

module _ {R A : Type 0} (k : Step R A) where
  costs_spent : (n l : ℕ) (answer : ℕ → Outcome R A) → Costs k n l answer → Costs (spend >> k) (suc n) l answer
  costs_spent n l answer h =
      (suc h.0, omega (arith, h.1), elim [ zero ↦ λ j p. absurd (omega arith) | suc i ↦ λ j p. h.2 i j (omega arith) ], elim [ zero ↦ λ p. refl | suc i ↦ λ p. h.3 i (omega arith) ])

  spent : (n : ℕ) (o : Outcome R A) → LawAt k n o → LawAt (spend >> k) (suc n) o
  spent n (Gave x l) h = costs_spent n l (Gave x) h
  spent n (Refused r l) h = costs_spent n l (Refused r) h
  spent n OutOfFuel h = tt

  spend_at : Law k → (n : ℕ) → LawAt (spend >> k) n ((spend >> k) n)
  spend_at h zero = tt
  spend_at h (suc n) = spent n (k n) (lawful h n)

pub law_spend : {R A : Type 0} {k : Step R A} → Law k → Law (spend >> k)
law_spend {k = k} h = law (spend_at k h)

pub law_choose : {R A : Type 0} (b : Bool) {m k : Step R A} → Law m → Law k → Law (choose b m k)
law_choose true h l = h
law_choose false h l = l

pub law_demand : {R : Type 0} (b : Bool) (r : R) → Law (demand b r)
law_demand true r = law_pure tt
law_demand false r = law_refuse r

each_at : {R : Type 0} (k : ℕ) → Law {R = R} (spend_each k) → (n : ℕ) → LawAt {R = R} (spend_each (suc k)) n (spend_each (suc k) n)
each_at {R} k h zero = tt
each_at {R} k h (suc n) = each_more (spend_each k n) (lawful h n)
  where
    costs_more : (l : ℕ) (answer : ℕ → Outcome R (Unit {0})) → Costs (spend_each k) n l answer → Costs (spend_each (suc k)) (suc n) l answer
    costs_more l answer h =
        (suc h.0, omega (arith, h.1), elim [ zero ↦ λ j p. absurd (omega arith) | suc i ↦ λ j p. h.2 i j (omega arith) ], elim [ zero ↦ λ p. refl | suc i ↦ λ p. h.3 i (omega arith) ])

    each_more : (o : Outcome R (Unit {0})) → LawAt (spend_each k) n o → LawAt (spend_each (suc k)) (suc n) o
    each_more (Gave x l) h = costs_more l (Gave x) h
    each_more (Refused r l) h = costs_more l (Refused r) h
    each_more OutOfFuel h = tt

pub law_spend_each : {R : Type 0} (k : ℕ) → Law {R = R} (spend_each k)
law_spend_each zero = law_pure tt
law_spend_each (suc k) = law (each_at k (law_spend_each k))

module _ {R A : Type 0} (m : Step R A) (f : R → Step R A) where
  else_at : (n : ℕ) (o : Outcome R A) → ((r : R) → Law (f r)) → LawAt m n o → LawAt (or_else m f) n (retry o f)
  else_at n (Gave x k) lf h = costs_same m (or_else m f) (λ i e. ap (λ o. retry o f) e) n k (Gave x) (Gave x) (λ i j e. ap (λ o. retry o f) e) h
  else_at n (Refused r k) lf h = law_after m (or_else m f) (λ i e. ap (λ o. retry o f) e) n k (Refused r) (f r) (f r k) (λ i j e. ap (λ o. retry o f) e) h (lawful (lf r) k)
  else_at n OutOfFuel lf h = tt

pub law_or_else : {R A : Type 0} {m : Step R A} {f : R → Step R A} → Law m → ((r : R) → Law (f r)) → Law (or_else m f)
law_or_else {m = m} {f = f} h k = law (λ n. else_at m f n (m n) k (lawful h n))

called_at : {R A : Type 0} (f : KernelRefusal → R) (m : Run A) (n : ℕ) (o : KernelOutcome A) → run.LawAt m n o → LawAt (kernel_call f m) n (ran f o)
called_at f m n (kernel.Gave x k) h = (h.0, h.1, λ i j e. ap (ran f) (h.2 i j e), λ i l. ap (ran f) (h.3 i l))
called_at f m n (kernel.Refused r k) h = (h.0, h.1, λ i j e. ap (ran f) (h.2 i j e), λ i l. ap (ran f) (h.3 i l))
called_at f m n kernel.OutOfFuel h = tt

pub law_called : {R A : Type 0} (f : KernelRefusal → R) (m : Run A) → run.Lawful m → Law (kernel_call f m)
law_called f m h = law (λ n. called_at f m n (m n) (h n))

-- ---- two calls that agree below a number of units

pub data Agree {R A : Type 0} (u : ℕ) (m k : Step R A) : Type 0 where
  agree : ((n : ℕ) → n < u → m n ≡ k n) → Agree u m k

pub agreed : {R A : Type 0} {u : ℕ} {m k : Step R A} → Agree u m k → (n : ℕ) → n < u → m n ≡ k n
agreed (agree h) = h

pub agree_same : {R A : Type 0} {u : ℕ} {m : Step R A} → Agree u m m
agree_same = agree (λ n l. refl)

pub agree_none : {R A : Type 0} {m k : Step R A} → Agree 0 m k
agree_none = agree (λ n l. absurd (omega arith))

spend_agrees : {R A : Type 0} (u : ℕ) (m k : Step R A) → Agree u m k → (n : ℕ) → n < suc u → (spend >> m) n ≡ (spend >> k) n
spend_agrees u m k h zero l = refl
spend_agrees u m k h (suc n) l = agreed h n (omega arith)

pub agree_spend : {R A : Type 0} {u : ℕ} {m k : Step R A} → Agree u m k → Agree (suc u) (spend >> m) (spend >> k)
agree_spend {u = u} {m = m} {k = k} h = agree (spend_agrees u m k h)

pub agree_choose : {R A : Type 0} {u : ℕ} (b : Bool) {m m' k k' : Step R A} → Agree u m m' → Agree u k k' → Agree u (choose b m k) (choose b m' k')
agree_choose true h l = h
agree_choose false h l = l

bind_agrees : {R A B : Type 0} (u n : ℕ) (m : Step R A) (f g : A → Step R B) (o : Outcome R A) → n < u → LawAt m n o → ((x : A) → Agree u (f x) (g x)) → go_on o f ≡ go_on o g
bind_agrees u n m f g (Gave x k) l h fg = agreed (fg x) k (omega (arith, h.1))
bind_agrees u n m f g (Refused r k) l h fg = refl
bind_agrees u n m f g OutOfFuel l h fg = refl

pub agree_bind : {R A B : Type 0} {u : ℕ} {m k : Step R A} {f g : A → Step R B} → Law m → Agree u m k → ((x : A) → Agree u (f x) (g x)) → Agree u (m >>= f) (k >>= g)
agree_bind {u = u} {m = m} {k = k} {f = f} {g = g} lm h l =
    agree (λ n p. bind_agrees u n m f g (m n) p (lawful lm n) l ∙ ap (λ o. go_on o g) (agreed h n p))

pub agree_then : {R A B : Type 0} {u : ℕ} {m m' : Step R A} {k k' : Step R B} → Law m → Agree u m m' → Agree u k k' → Agree u (m >> k) (m' >> k')
agree_then {u = u} {m = m} {m' = m'} {k = k} {k' = k'} lm h l =
    agree (λ n p. bind_agrees u n m (λ x. k) (λ x. k') (m n) p (lawful lm n) (λ x. l) ∙ ap (λ o. go_on o (λ x. k')) (agreed h n p))

else_agrees : {R A : Type 0} (u n : ℕ) (m : Step R A) (f g : R → Step R A) (o : Outcome R A) → n < u → LawAt m n o → ((r : R) → Agree u (f r) (g r)) → retry o f ≡ retry o g
else_agrees u n m f g (Gave x k) l h fg = refl
else_agrees u n m f g (Refused r k) l h fg = agreed (fg r) k (omega (arith, h.1))
else_agrees u n m f g OutOfFuel l h fg = refl

pub agree_or_else : {R A : Type 0} {u : ℕ} {m k : Step R A} {f g : R → Step R A} → Law m → Agree u m k → ((r : R) → Agree u (f r) (g r)) → Agree u (or_else m f) (or_else k g)
agree_or_else {u = u} {m = m} {k = k} {f = f} {g = g} lm h l =
    agree (λ n p. else_agrees u n m f g (m n) p (lawful lm n) l ∙ ap (λ o. retry o g) (agreed h n p))

-- a unit at least is spent before
each_agrees : {R A : Type 0} (u j : ℕ) (m k : Step R A) → 1 ≤ j → Agree u m k → (n : ℕ) → n < suc u → (spend_each j >> m) n ≡ (spend_each j >> k) n
each_agrees u zero m k p h n l = absurd (omega arith)
each_agrees u (suc j) m k p h zero l = refl
each_agrees u (suc j) m k p h (suc n) l = agreed (agree_then (law_spend_each j) agree_same h) n (omega arith)

pub agree_spend_each : {R A : Type 0} {u : ℕ} (j : ℕ) {m k : Step R A} → 1 ≤ j → Agree u m k → Agree (suc u) (spend_each j >> m) (spend_each j >> k)
agree_spend_each {u = u} j {m = m} {k = k} p h = agree (each_agrees u j m k p h)

-- ---- a call at each depth that is lawful, and the depth makes no difference: so the call at its own units is lawful

module _ {R A : Type 0} (m : ℕ → Step R A) (lm : (g : ℕ) → Law (m g)) (bm : (u g k : ℕ) → u ≤ suc g → u ≤ suc k → Agree u (m g) (m k)) where
  pub deeper : (i g : ℕ) → i ≤ g → m i i ≡ m g i
  deeper i g l = agreed (bm (suc i) i g (omega arith) (omega arith)) i (omega arith)

  depth_costs : (n k : ℕ) (answer : ℕ → Outcome R A) → ((g : ℕ) → n ≤ g → Costs (m g) n k answer) → Costs (λ i. m i i) n k answer
  depth_costs n k answer h =
      let c = h n (omega arith) in
      (c.0, c.1, λ i j p. let d = h (n + i) (omega arith) in deeper i (n + i) (omega arith) ∙ d.2 i j (omega (arith, c.1, d.1)), λ i l. let d = h (n + i) (omega arith) in deeper i (n + i) (omega arith) ∙ d.3 i (omega (arith, c.1, d.1)))

  depth_at : (n : ℕ) (o : Outcome R A) → m n n ≡ o → LawAt (λ i. m i i) n o
  depth_at n (Gave x k) e = depth_costs n k (Gave x) (λ g l. subst (LawAt (m g) n) (sym (deeper n g l) ∙ e) (lawful (lm g) n))
  depth_at n (Refused r k) e = depth_costs n k (Refused r) (λ g l. subst (LawAt (m g) n) (sym (deeper n g l) ∙ e) (lawful (lm g) n))
  depth_at n OutOfFuel e = tt

  pub law_depth : Law (λ i. m i i)
  law_depth = law (λ n. depth_at n (m n n) refl)

-- the fuel law as it is stated
pub fuel_law : {R A : Type 0} {m : Step R A} → Law m → FuelLaw m
fuel_law {m = m} lm n left i =
    (λ x e. let h : LawAt m n (Gave x left) = subst (LawAt m n) e (lawful lm n) in (λ l. h.2 i (i - (n - left)) (omega (arith, h.1)), λ l. h.3 i (omega (arith, h.1))), λ r e. let h : LawAt m n (Refused r left) = subst (LawAt m n) e (lawful lm n) in (λ l. h.2 i (i - (n - left)) (omega (arith, h.1)), λ l. h.3 i (omega (arith, h.1))))
