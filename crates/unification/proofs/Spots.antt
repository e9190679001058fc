-- The metavariable in whose arguments the first bad variable stands occurs in the term.
use Rattle.std.proofs.Common.{◌≡◌, ℕ, suc, ◌-◌, Bool, true, false, ◌||◌, refl, nat_lt, if◌then◌else◌}
use Rattle.std.proofs.lemmas.Bool.{eq-eqb}
use Rattle.ld_trees.specs.Term.{Head, Named, Numbered, Term, Srt, Var, App, Lam, Pi, Con, Terms, none, ◌▹◌}
use Rattle.meta_trees.specs.Dependencies.{is_meta, occurs, occurs_in}
use Rattle.meta_trees.proofs.Dependencies.{or_left, or_right}
use Rattle.goal_state.specs.State.{is_open}
use Rattle.unification.specs.Refusals.{Plain}
use Rattle.unification.specs.Pruning.{Spot, Nowhere, Outside, Inside, Around, Free, Within, spot_in, or_spot, marks_of, around, first_bad, first_bad_of}

module _ (D : ℕ → Type 0) where
  abbrev pub SpotIn : Spot → Type 0
  SpotIn Nowhere = Unit {0}
  SpotIn (Outside i) = Unit {0}
  SpotIn (Inside i m marks) = D m

  abbrev AroundIn : Around → Type 0
  AroundIn Free = Unit {0}
  AroundIn (Within m marks) = D m

  in_spot : (i : ℕ) (a : Around) → AroundIn a → SpotIn (spot_in i a)
  in_spot i Free h = tt
  in_spot i (Within m marks) h = h

  in_either : (s z : Spot) → SpotIn s → SpotIn z → SpotIn (or_spot s z)
  in_either Nowhere z h k = k
  in_either (Outside i) z h k = h
  in_either (Inside i m marks) z h k = h

  in_if : (b : Bool) (s : Spot) → SpotIn s → SpotIn (if b then Nowhere else s)
  in_if true s h = tt
  in_if false s h = h

  module _ (metas : Plain) (good : ℕ → Bool) where
    in_around : (k : ℕ) (a : Around) (h : Head) (us : Terms) → AroundIn a → ((j : ℕ) → is_meta j h ≡ true → D j) → AroundIn (around metas good k a h us)
    in_around k Free (Named c) us i f = tt
    in_around k Free (Numbered m) us i f = go (is_open metas m)
      where
        go : (b : Bool) → AroundIn (if b then Within m (marks_of good k us) else Free)
        go true = f m (eq-eqb m m refl)
        go false = tt
    in_around k (Within p marks) (Named c) us i f = i
    in_around k (Within p marks) (Numbered m) us i f = i

    mutual
      pub spot_occurs : (t : Term) (k : ℕ) (a : Around) → AroundIn a → ((j : ℕ) → occurs j t ≡ true → D j) → SpotIn (first_bad metas good k a t)
      spot_occurs (Srt s) k a i f = tt
      spot_occurs (Var n) k a i f = in_if (nat_lt n k || good (n - k)) (spot_in (n - k) a) (in_spot (n - k) a i)
      spot_occurs (App g u) k a i f = in_either (first_bad metas good k a g) _ (spot_occurs g k a i (λ j w. f j (or_left (occurs j g) _ w))) (spot_occurs u k a i (λ j w. f j (or_right (occurs j g) _ w)))
      spot_occurs (Lam A M) k a i f = in_either (first_bad metas good k a A) _ (spot_occurs A k a i (λ j w. f j (or_left (occurs j A) _ w))) (spot_occurs M (suc k) a i (λ j w. f j (or_right (occurs j A) _ w)))
      spot_occurs (Pi A M) k a i f = in_either (first_bad metas good k a A) _ (spot_occurs A k a i (λ j w. f j (or_left (occurs j A) _ w))) (spot_occurs M (suc k) a i (λ j w. f j (or_right (occurs j A) _ w)))
      spot_occurs (Con h us) k a i f = spots_occur us k (around metas good k a h us) (in_around k a h us i (λ j w. f j (or_left (is_meta j h) _ w))) (λ j w. f j (or_right (is_meta j h) _ w))

      spots_occur : (us : Terms) (k : ℕ) (a : Around) → AroundIn a → ((j : ℕ) → occurs_in j us ≡ true → D j) → SpotIn (first_bad_of metas good k a us)
      spots_occur none k a i f = tt
      spots_occur (us ▹ u) k a i f = in_either (first_bad_of metas good k a us) _ (spots_occur us k a i (λ j w. f j (or_left (occurs_in j us) _ w))) (spot_occurs u k a i (λ j w. f j (or_right (occurs_in j us) _ w)))
