-- The first bad variable of a term decides which variables it holds only, and where the variable stands.
use Rattle.std.proofs.Common.{◌≡◌, ℕ, suc, ◌+◌, ◌-◌, ◌<◌, List, [], ◌∷◌, ◌++◌, Bool, true, false, ◌&&◌, ◌||◌, nat_lt, Option, Some, None, is_none, is_some, not, length, take, drop, map, get_or, refl, sym, ap, ap₂, ◌∙◌, arith, if◌then◌else◌}
use Rattle.std.proofs.lemmas.Bool.{false≢true}
use Rattle.std.specs.Option.{option_or}
use Rattle.ld_trees.specs.Term.{Named, Numbered, Term, Srt, Var, App, Lam, Pi, Con, Terms, none, ◌▹◌}
use Rattle.ld_terms.specs.Views.{terms_onto, terms_of}
use Rattle.goal_state.specs.State.{is_open}
use Rattle.unification.specs.Refusals.{Plain}
use Rattle.unification.specs.Patterns.{holds_only, all_hold_only}
use Rattle.unification.specs.Pruning.{Spot, Nowhere, Outside, Inside, Free, Within, or_spot, marks_of, first_bad, first_bad_of}
use Rattle.pattern_unify.specs.declared.spots.Spot.{Spot as StoredSpot}
use Rattle.pattern_unify.specs.declared.spots.Spot.TheVariants as spot
use Rattle.pattern_unify.specs.Walks.{plain_spot, or_next, bad_variable, bad_variable_of, spot_if, spot_within, spot_outside, free_spot, free_spot_of}
use Rattle.pattern_unify.proofs.Onto.{done_and_rest, one_more_done}

-- one binder more
deeper : {A : Type 0} (k : ℕ) (f : ℕ → A) → f (suc k) ≡ f (k + 1)
deeper k f = ap f (omega arith)

-- ---- the first of two

pub or_is : (o p q : Option ℕ) → or_next (or_next o p) q ≡ or_next o (or_next p q)
or_is None p q = refl
or_is (Some i) p q = refl

pub or_spot_is : (s z w : Spot) → or_spot (or_spot s z) w ≡ or_spot s (or_spot z w)
or_spot_is Nowhere z w = refl
or_spot_is (Outside i) z w = refl
or_spot_is (Inside i m marks) z w = refl

-- ---- a term holds good variables only where none is bad

none_of_two : (o p : Option ℕ) → is_none (or_next o p) ≡ (is_none o && is_none p)
none_of_two None p = refl
none_of_two (Some i) p = refl

module _ (good : ℕ → Bool) where
  at_variable : (b : Bool) (i : ℕ) → is_none (if b then None else Some i) ≡ b
  at_variable true i = refl
  at_variable false i = refl

  mutual
    pub none_bad : (k : ℕ) (t : Term) → holds_only good k t ≡ is_none (bad_variable good k t)
    none_bad k (Srt s) = refl
    none_bad k (Var i) = sym (at_variable (nat_lt i k || good (i - k)) (i - k))
    none_bad k (App f a) = ap₂ ◌&&◌ (none_bad k f) (none_bad k a) ∙ sym (none_of_two (bad_variable good k f) (bad_variable good k a))
    none_bad k (Lam A M) = ap₂ ◌&&◌ (none_bad k A) (deeper k (λ n. holds_only good n M) ∙ none_bad (k + 1) M) ∙ sym (none_of_two (bad_variable good k A) (bad_variable good (k + 1) M))
    none_bad k (Pi A M) = ap₂ ◌&&◌ (none_bad k A) (deeper k (λ n. holds_only good n M) ∙ none_bad (k + 1) M) ∙ sym (none_of_two (bad_variable good k A) (bad_variable good (k + 1) M))
    none_bad k (Con h us) = none_bad_of k us

    none_bad_of : (k : ℕ) (us : Terms) → all_hold_only good k us ≡ is_none (bad_variable_of good k us)
    none_bad_of k none = refl
    none_bad_of k (us ▹ u) = ap₂ ◌&&◌ (none_bad_of k us) (none_bad k u) ∙ sym (none_of_two (bad_variable_of good k us) (bad_variable good k u))

-- ---- the first bad variable inside arguments of a metavariable

if_of_two : (m : ℕ) (marks : List Bool) (o p : Option ℕ) → or_spot (spot_if m marks o) (spot_if m marks p) ≡ spot_if m marks (or_next o p)
if_of_two m marks None p = refl
if_of_two m marks (Some i) p = refl

module _ (metas : Plain) (good : ℕ → Bool) (m : ℕ) (marks : List Bool) where
  if_at : (b : Bool) (i : ℕ) → (if b then Nowhere else Inside i m marks) ≡ spot_if m marks (if b then None else Some i)
  if_at true i = refl
  if_at false i = refl

  mutual
    inside : (k : ℕ) (t : Term) → first_bad metas good k (Within m marks) t ≡ spot_if m marks (bad_variable good k t)
    inside k (Srt s) = refl
    inside k (Var i) = if_at (nat_lt i k || good (i - k)) (i - k)
    inside k (App f a) = ap₂ or_spot (inside k f) (inside k a) ∙ if_of_two m marks (bad_variable good k f) (bad_variable good k a)
    inside k (Lam A M) = ap₂ or_spot (inside k A) (deeper k (λ n. first_bad metas good n (Within m marks) M) ∙ inside (k + 1) M) ∙ if_of_two m marks (bad_variable good k A) (bad_variable good (k + 1) M)
    inside k (Pi A M) = ap₂ or_spot (inside k A) (deeper k (λ n. first_bad metas good n (Within m marks) M) ∙ inside (k + 1) M) ∙ if_of_two m marks (bad_variable good k A) (bad_variable good (k + 1) M)
    inside k (Con h us) = inside_all k us

    pub inside_all : (k : ℕ) (us : Terms) → first_bad_of metas good k (Within m marks) us ≡ spot_if m marks (bad_variable_of good k us)
    inside_all k none = refl
    inside_all k (us ▹ u) = ap₂ or_spot (inside_all k us) (inside k u) ∙ if_of_two m marks (bad_variable_of good k us) (bad_variable good k u)

-- ---- the first bad variable in no argument of an unassigned metavariable so far

module _ (metas : Plain) (good : ℕ → Bool) where
  free_if : (b : Bool) (i : ℕ) → spot_outside (if b then None else Some i) ≡ (if b then Nowhere else Outside i)
  free_if true i = refl
  free_if false i = refl

  at_meta : (k m : ℕ) (us : Terms) (b : Bool) → free_spot_of metas good k us ≡ first_bad_of metas good k Free us →
      (if b then spot_within m good k us else free_spot_of metas good k us) ≡ first_bad_of metas good k (if b then Within m (marks_of good k us) else Free) us
  at_meta k m us true e = sym (inside_all metas good m (marks_of good k us) k us)
  at_meta k m us false e = e

  mutual
    pub free_is : (k : ℕ) (t : Term) → free_spot metas good k t ≡ first_bad metas good k Free t
    free_is k (Srt s) = refl
    free_is k (Var i) = free_if (nat_lt i k || good (i - k)) (i - k)
    free_is k (App f a) = ap₂ or_spot (free_is k f) (free_is k a)
    free_is k (Lam A M) = ap₂ or_spot (free_is k A) (free_is (k + 1) M ∙ sym (deeper k (λ n. first_bad metas good n Free M)))
    free_is k (Pi A M) = ap₂ or_spot (free_is k A) (free_is (k + 1) M ∙ sym (deeper k (λ n. first_bad metas good n Free M)))
    free_is k (Con (Named c) us) = free_is_of k us
    free_is k (Con (Numbered m) us) = at_meta k m us (is_open metas m) (free_is_of k us)

    free_is_of : (k : ℕ) (us : Terms) → free_spot_of metas good k us ≡ first_bad_of metas good k Free us
    free_is_of k none = refl
    free_is_of k (us ▹ u) = ap₂ or_spot (free_is_of k us) (free_is k u)

-- ---- in several terms, from the first one on

module _ (good : ℕ → Bool) (k : ℕ) where
  found_onto : (us : Terms) (xs : List Term) (i : ℕ) → bad_variable_of good k us ≡ Some i → bad_variable_of good k (terms_onto us xs) ≡ Some i
  found_onto us [] i e = e
  found_onto us (x ∷ xs) i e = found_onto (us ▹ x) xs i (ap (λ o. or_next o (bad_variable good k x)) e)

  module _ {H : Type 0} (means : H → Term) (hs : List H) (n : ℕ) (h : H) (l : n < length hs) (e : h ≡ get_or hs n h) (f : bad_variable_of good k (terms_of (map means (take n hs))) ≡ None) where
    next_bad : bad_variable_of good k (terms_of (map means (take (n + 1) hs))) ≡ bad_variable good k (means h)
    next_bad = ap (bad_variable_of good k) (one_more_done means hs n h l e) ∙ ap (λ o. or_next o (bad_variable good k (means h))) f

    -- the next one holds none
    pub bad_later : None ≡ bad_variable good k (means h) → bad_variable_of good k (terms_of (map means (take (n + 1) hs))) ≡ None
    bad_later p = next_bad ∙ sym p

    -- the next one holds the first one
    pub bad_now : (i : ℕ) → Some i ≡ bad_variable good k (means h) → Some i ≡ bad_variable_of good k (terms_of (map means hs))
    bad_now i p = sym (ap (bad_variable_of good k) (done_and_rest means hs (n + 1)) ∙ found_onto (terms_of (map means (take (n + 1) hs))) (map means (drop (n + 1) hs)) i (next_bad ∙ sym p))

abbrev pub IsSomewhere : Spot → Type 0
IsSomewhere Nowhere = ⊥
IsSomewhere (Outside i) = Unit {0}
IsSomewhere (Inside i m marks) = Unit {0}

pub somewhere : (s : StoredSpot) → (s ≡ spot.Nowhere → ⊥) → IsSomewhere (plain_spot s)
somewhere spot.Nowhere h = h refl
somewhere (spot.Outside i) h = tt
somewhere (spot.Inside i m marks) h = tt

module _ (metas : Plain) (good : ℕ → Bool) (k : ℕ) where
  stays : (s z : Spot) → IsSomewhere s → or_spot s z ≡ s
  stays Nowhere z h = absurd h
  stays (Outside i) z h = refl
  stays (Inside i m marks) z h = refl

  spot_onto : (us : Terms) (xs : List Term) (s : Spot) → IsSomewhere s → free_spot_of metas good k us ≡ s → free_spot_of metas good k (terms_onto us xs) ≡ s
  spot_onto us [] s h e = e
  spot_onto us (x ∷ xs) s h e = spot_onto (us ▹ x) xs s h (ap (λ z. or_spot z (free_spot metas good k x)) e ∙ stays s (free_spot metas good k x) h)

  module _ {H : Type 0} (means : H → Term) (hs : List H) (n : ℕ) (h : H) (l : n < length hs) (e : h ≡ get_or hs n h) (f : free_spot_of metas good k (terms_of (map means (take n hs))) ≡ Nowhere) where
    next_spot : free_spot_of metas good k (terms_of (map means (take (n + 1) hs))) ≡ free_spot metas good k (means h)
    next_spot = ap (free_spot_of metas good k) (one_more_done means hs n h l e) ∙ ap (λ z. or_spot z (free_spot metas good k (means h))) f

    pub spot_later : Nowhere ≡ free_spot metas good k (means h) → free_spot_of metas good k (terms_of (map means (take (n + 1) hs))) ≡ Nowhere
    spot_later p = next_spot ∙ sym p

    pub spot_now : (s : Spot) → IsSomewhere s → s ≡ free_spot metas good k (means h) → s ≡ free_spot_of metas good k (terms_of (map means hs))
    spot_now s q p = sym (ap (free_spot_of metas good k) (done_and_rest means hs (n + 1)) ∙ spot_onto (terms_of (map means (take (n + 1) hs))) (map means (drop (n + 1) hs)) s q (next_spot ∙ sym p))

-- ---- in an application that is walked down to its head: what was found so far stands behind the rest w of the spine, and the whole finds x

or_again : (o p : Option ℕ) → option_or o p ≡ or_next o p
or_again None p = refl
or_again (Some i) p = refl

module _ (good : ℕ → Bool) (k : ℕ) (w : Term) (found o r x : Option ℕ) (y : r ≡ option_or o found) (z : or_next (bad_variable good k w) found ≡ x) where
  pub bad_further : (g b : Term) → App g b ≡ w → o ≡ bad_variable good k b → or_next (bad_variable good k g) r ≡ x
  bad_further g b e q =
      ap (or_next (bad_variable good k g)) (y ∙ or_again o found ∙ ap (λ n. or_next n found) q)
      ∙ sym (or_is (bad_variable good k g) (bad_variable good k b) found) ∙ ap (λ t. or_next (bad_variable good k t) found) e ∙ z

  pub bad_ended : o ≡ bad_variable good k w → r ≡ x
  bad_ended q = y ∙ or_again o found ∙ ap (λ n. or_next n found) q ∙ z

module _ (metas : Plain) (good : ℕ → Bool) (k : ℕ) (w : Term) (found s r x : Spot) (y : r ≡ or_spot s found) (z : or_spot (free_spot metas good k w) found ≡ x) where
  pub spot_further : (g b : Term) → App g b ≡ w → s ≡ free_spot metas good k b → or_spot (free_spot metas good k g) r ≡ x
  spot_further g b e q =
      ap (or_spot (free_spot metas good k g)) (y ∙ ap (λ n. or_spot n found) q)
      ∙ sym (or_spot_is (free_spot metas good k g) (free_spot metas good k b) found) ∙ ap (λ t. or_spot (free_spot metas good k t) found) e ∙ z

  pub spot_ended : s ≡ free_spot metas good k w → r ≡ x
  spot_ended q = y ∙ ap (λ n. or_spot n found) q ∙ z

-- one more mark
pub marks_more : {H : Type 0} (good : ℕ → Bool) (k : ℕ) (means : H → Term) (hs : List H) (n : ℕ) (h : H) → n < length hs → h ≡ get_or hs n h →
    marks_of good k (terms_of (map means (take (n + 1) hs))) ≡ marks_of good k (terms_of (map means (take n hs))) ++ is_none (bad_variable good k (means h)) ∷ []
marks_more good k means hs n h l e =
    ap (marks_of good k) (one_more_done means hs n h l e)
    ∙ ap (λ b. marks_of good k (terms_of (map means (take n hs))) ++ b ∷ []) (none_bad good k (means h))

-- what the test for nothing answers
pub none_is : (o : Option ℕ) (b : Bool) → is_some o ≡ not b → b ≡ is_none o
none_is None true e = refl
none_is None false e = absurd (false≢true e)
none_is (Some i) true e = absurd (false≢true (sym e))
none_is (Some i) false e = refl
