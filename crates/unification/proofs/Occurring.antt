-- A metavariable in whose arguments the first bad variable of a term stands occurs in the term.
use Rattle.std.proofs.Common.{◌≡◌, ℕ, suc, ◌+◌, ◌-◌, ◌≤◌, List, Bool, true, false, ◌||◌, nat_eq, nat_lt, refl, sym, subst, arith, eq-eqb, if◌then◌else◌}
use Rattle.std.proofs.lemmas.Bool.{false≢true}
use Rattle.ld_trees.specs.Term.{Named, Numbered, Term, Srt, Var, App, Lam, Pi, Con, Terms, none, ◌▹◌}
use Rattle.goal_state.specs.State.{is_open}
use Rattle.unification.specs.Refusals.{Plain}
use Rattle.unification.specs.Pruning.{Spot, Nowhere, Outside, Inside, Free, Within, or_spot, spot_in, marks_of, first_bad, first_bad_of, occurrences, occurrences_in}

-- a spot inside no metavariable but m
abbrev IsIn : ℕ → Spot → Type 0
IsIn m Nowhere = Unit {0}
IsIn m (Outside i) = ⊥
IsIn m (Inside i p marks) = p ≡ m

-- the metavariable of a spot has a count that is no 0
abbrev pub IsCounted : (ℕ → ℕ) → Spot → Type 0
IsCounted count Nowhere = Unit {0}
IsCounted count (Outside i) = Unit {0}
IsCounted count (Inside i p marks) = 1 ≤ count p

or_in : (m : ℕ) (s z : Spot) → IsIn m s → IsIn m z → IsIn m (or_spot s z)
or_in m Nowhere z h l = l
or_in m (Outside i) z h l = h
or_in m (Inside i p marks) z h l = h

or_counted : (f g k : ℕ → ℕ) → ((p : ℕ) → f p ≤ k p) → ((p : ℕ) → g p ≤ k p) → (s z : Spot) → IsCounted f s → IsCounted g z → IsCounted k (or_spot s z)
or_counted f g k a b Nowhere Nowhere h l = tt
or_counted f g k a b Nowhere (Outside i) h l = tt
or_counted f g k a b Nowhere (Inside i p marks) h l = omega (arith, b p, l)
or_counted f g k a b (Outside i) z h l = tt
or_counted f g k a b (Inside i p marks) z h l = omega (arith, a p, h)

more_counted : (f k : ℕ → ℕ) → ((p : ℕ) → f p ≤ k p) → (s : Spot) → IsCounted f s → IsCounted k s
more_counted f k a Nowhere h = tt
more_counted f k a (Outside i) h = tt
more_counted f k a (Inside i p marks) h = omega (arith, a p, h)

-- a spot inside m alone, where m is counted
in_counted : (f : ℕ → ℕ) (m : ℕ) (s : Spot) → 1 ≤ f m → IsIn m s → IsCounted f s
in_counted f m Nowhere l h = tt
in_counted f m (Outside i) l h = tt
in_counted f m (Inside i p marks) l h = subst (λ q. 1 ≤ f q) (sym h) l

either_in : (m : ℕ) (b : Bool) (s : Spot) → IsIn m s → IsIn m (if b then Nowhere else s)
either_in m true s h = tt
either_in m false s h = h

either_counted : (f : ℕ → ℕ) (b : Bool) (i : ℕ) → IsCounted f (if b then Nowhere else spot_in i Free)
either_counted f true i = tt
either_counted f false i = tt

module _ (metas : Plain) (good : ℕ → Bool) where
  -- round a term of m's arguments nothing else is found
  mutual
    within : (m : ℕ) (marks : List Bool) (k : ℕ) (t : Term) → IsIn m (first_bad metas good k (Within m marks) t)
    within m marks k (Srt s) = tt
    within m marks k (Var i) = either_in m (nat_lt i k || good (i - k)) (spot_in (i - k) (Within m marks)) refl
    within m marks k (App f a) = or_in m _ _ (within m marks k f) (within m marks k a)
    within m marks k (Lam A M) = or_in m _ _ (within m marks k A) (within m marks (suc k) M)
    within m marks k (Pi A B) = or_in m _ _ (within m marks k A) (within m marks (suc k) B)
    within m marks k (Con h us) = within_all m marks k us

    within_all : (m : ℕ) (marks : List Bool) (k : ℕ) (us : Terms) → IsIn m (first_bad_of metas good k (Within m marks) us)
    within_all m marks k none = tt
    within_all m marks k (us ▹ u) = or_in m _ _ (within_all m marks k us) (within m marks k u)

  one_more : (m : ℕ) (us : Terms) → 1 ≤ occurrences m (Con (Numbered m) us)
  one_more m us = by_case (nat_eq m m) (eq-eqb m m refl)
    where
      by_case : (b : Bool) → b ≡ true → 1 ≤ (if b then 1 else 0) + occurrences_in m us
      by_case true e = omega arith
      by_case false e = absurd (false≢true e)

  at_meta : (k m : ℕ) (us : Terms) (b : Bool) → IsCounted (λ p. occurrences p (Con (Numbered m) us)) (first_bad_of metas good k Free us)
      → IsCounted (λ p. occurrences p (Con (Numbered m) us)) (first_bad_of metas good k (if b then Within m (marks_of good k us) else Free) us)
  at_meta k m us true h = in_counted (λ p. occurrences p (Con (Numbered m) us)) m _ (one_more m us) (within_all m (marks_of good k us) k us)
  at_meta k m us false h = h

  mutual
    counted : (k : ℕ) (t : Term) → IsCounted (λ p. occurrences p t) (first_bad metas good k Free t)
    counted k (Srt s) = tt
    counted k (Var i) = either_counted (λ p. 0) (nat_lt i k || good (i - k)) (i - k)
    counted k (App f a) = or_counted _ _ _ (λ p. omega arith) (λ p. omega arith) _ _ (counted k f) (counted k a)
    counted k (Lam A M) = or_counted _ _ _ (λ p. omega arith) (λ p. omega arith) _ _ (counted k A) (counted (suc k) M)
    counted k (Pi A B) = or_counted _ _ _ (λ p. omega arith) (λ p. omega arith) _ _ (counted k A) (counted (suc k) B)
    counted k (Con (Named c) us) = more_counted _ _ (λ p. omega arith) _ (counted_all k us)
    counted k (Con (Numbered m) us) = at_meta k m us (is_open metas m) (more_counted _ _ (λ p. omega arith) _ (counted_all k us))

    counted_all : (k : ℕ) (us : Terms) → IsCounted (λ p. occurrences_in p us) (first_bad_of metas good k Free us)
    counted_all k none = tt
    counted_all k (us ▹ u) = or_counted _ _ _ (λ p. omega arith) (λ p. omega arith) _ _ (counted_all k us) (counted k u)

  pub inside_occurs : (t : Term) → IsCounted (λ p. occurrences p t) (first_bad metas good 0 Free t)
  inside_occurs t = counted 0 t
