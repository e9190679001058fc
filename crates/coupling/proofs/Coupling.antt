-- The lists of needed and of coupled goals are what the words say.
use Rattle.std.proofs.Common.{◌≡◌, ◌≢◌, ◌<◌, ◌↔◌, inl, inr, ℕ, zero, suc, List, [], ◌∷◌, Bool, true, false, not, ◌||◌, nat_eq, length, refl, sym, subst, arith}
use Rattle.std.proofs.lemmas.Bool.{eqb-true, eq-eqb}
use Rattle.ld_trees.specs.Term.{Term}
use Rattle.ld_trees.proofs.Equality.{and_left, and_right, and_both}
use Rattle.ld_terms.specs.declared.globals.Decl.{Decl}
use Rattle.meta_trees.specs.MetaContext.{Metas}
use Rattle.meta_trees.specs.Dependencies.{depends, parts_of}
use Rattle.meta_trees.proofs.Dependencies.{or_split, or_left, or_right, depends_is}
use Rattle.meta_laws.specs.Cut.{listed}
use Rattle.meta_laws.proofs.Lists.{below_sound, below_complete}
use Rattle.goal_state.specs.State.{rules_metas, is_open}
use Rattle.goal_state.proofs.Means.{open_is}
use Rattle.coupling.specs.Coupling.{AreCoupled, is_needed, needs, meet, is_coupled}
use Rattle.coupling.specs.Marks.{IsReached}
use Rattle.coupling.specs.Laws.{NeedIsDecided, CouplingIsDecided, CouplingIsSymmetric, DormantGoalsCount}

-- an open goal is declared
pub open_below : {H : Type 0} (ds : List (Decl H)) (k : ℕ) → is_open ds k ≡ true → k < length ds
open_below [] k e = absurd cc
open_below (d ∷ ds) zero e = omega arith
open_below (d ∷ ds) (suc k) e = let h = open_below ds k e in omega arith

pub reached_is : (Σ : Metas) (g k : ℕ) → ((nat_eq g k || depends Σ (parts_of Σ g) k) ≡ true) ↔ IsReached Σ g k
reached_is Σ g k = (
  λ e. elim (or_split (nat_eq g k) _ e) [
    | inl p ↦ inl (eqb-true g k p)
    | inr p ↦ inr ((depends_is Σ (parts_of Σ g) k).1 p)
  ],
  λ r. elim r [
    | inl q ↦ or_left (nat_eq g k) _ (eq-eqb g k q)
    | inr D ↦ or_right (nat_eq g k) _ ((depends_is Σ (parts_of Σ g) k).0 D)
  ],
)

pub needed_is : (ds : List (Decl Term)) (g k : ℕ) → (is_needed ds g k ≡ true) ↔ ((is_open ds k ≡ true) × IsReached (rules_metas ds) g k)
needed_is ds g k = (
  λ e. (and_left (is_open ds k) _ e, (reached_is (rules_metas ds) g k).0 (and_right (is_open ds k) _ e)),
  λ w. and_both (is_open ds k) _ w.0 ((reached_is (rules_metas ds) g k).1 w.1),
)

pub listed_needs : (ds : List (Decl Term)) (g k : ℕ) → (listed k (needs ds g) ≡ true) ↔ ((is_open ds k ≡ true) × IsReached (rules_metas ds) g k)
listed_needs ds g k = (
  λ e. (needed_is ds g k).0 (below_sound (is_needed ds g) (length ds) k e).1,
  λ w. below_complete (is_needed ds g) (length ds) k (open_below ds k w.0) ((needed_is ds g k).1 w),
)

pub need_is_decided : NeedIsDecided
need_is_decided ds g k = (
  λ e. let w = (listed_needs ds g k).0 e in record { goal = (open_is ds k).0 w.0; among = w.1 },
  λ n. (listed_needs ds g k).1 ((open_is ds k).1 n.goal, n.among),
)

-- lists meet where a number stands in both
pub meet_is : (ms ns : List ℕ) → (meet ms ns ≡ true) ↔ ((k : ℕ) × (listed k ms ≡ true) × (listed k ns ≡ true))
meet_is [] ns = (λ e. absurd cc, λ w. let e = w.1 in absurd cc)
meet_is (m ∷ ms) ns = (
  λ e. elim (or_split (listed m ns) _ e) [
    | inl p ↦ (m, or_left (nat_eq m m) _ (eq-eqb m m refl), p)
    | inr p ↦ let r = (meet_is ms ns).0 p in (r.0, or_right (nat_eq m r.0) _ r.1, r.2)
  ],
  λ w. elim (or_split (nat_eq m w.0) _ w.1) [
    | inl q ↦ or_left (listed m ns) _ (subst (λ j. listed j ns ≡ true) (sym (eqb-true m w.0 q)) w.2)
    | inr p ↦ or_right (listed m ns) _ ((meet_is ms ns).1 (w.0, p, w.2))
  ],
)

pub not_same : (g h : ℕ) → g ≢ h → not (nat_eq g h) ≡ true
not_same g h n = go (nat_eq g h) refl
  where
    go : (b : Bool) → nat_eq g h ≡ b → not b ≡ true
    go true e = absurd (n (eqb-true g h e))
    go false e = refl

pub not_same_means : (g h : ℕ) → not (nat_eq g h) ≡ true → g ≢ h
not_same_means g h e q = let f : nat_eq g h ≡ true = eq-eqb g h q in go (nat_eq g h) f e
  where
    go : (b : Bool) → b ≡ true → not b ≡ true → ⊥
    go true f e = absurd cc
    go false f e = absurd cc

-- the test of coupling, by what two goals reach
pub coupled_is : (ds : List (Decl Term)) (g h : ℕ) → (is_coupled ds g h ≡ true) ↔ ((g ≢ h) × (is_open ds h ≡ true) × ((k : ℕ) × (is_open ds k ≡ true) × IsReached (rules_metas ds) g k × IsReached (rules_metas ds) h k))
coupled_is ds g h = (
  λ e.
      let rest = and_right (not (nat_eq g h)) _ e in
      let met = (meet_is (needs ds g) (needs ds h)).0 (and_right (is_open ds h) _ rest) in
      let one = (listed_needs ds g met.0).0 met.1 in
      let two = (listed_needs ds h met.0).0 met.2 in
      (not_same_means g h (and_left (not (nat_eq g h)) _ e), and_left (is_open ds h) _ rest, (met.0, one.0, one.1, two.1)),
  λ w.
      let k = w.2.0 in
      let one = (listed_needs ds g k).1 (w.2.1, w.2.2) in
      let two = (listed_needs ds h k).1 (w.2.1, w.2.3) in
      and_both (not (nat_eq g h)) _ (not_same g h w.0) (and_both (is_open ds h) _ w.1 ((meet_is (needs ds g) (needs ds h)).1 (k, one, two))),
)

pub coupling_is_decided : CouplingIsDecided
coupling_is_decided ds g h goal = (
  λ e.
      let w = (coupled_is ds g h).0 (below_sound (is_coupled ds g) (length ds) h e).1 in
      let k = w.2.0 in
      let needed = (open_is ds k).0 w.2.1 in
      record {
        first = goal;
        second = (open_is ds h).0 w.1;
        apart = w.0;
        shared = (k, record { goal = needed; among = w.2.2 }, record { goal = needed; among = w.2.3 });
      },
  λ c.
      let h_open = (open_is ds h).1 c.second in
      let k = c.shared.0 in
      below_complete (is_coupled ds g) (length ds) h (open_below ds h h_open)
      ((coupled_is ds g h).1 (c.apart, h_open, (k, (open_is ds k).1 c.shared.1.goal, c.shared.1.among, c.shared.2.among))),
)

turned : (ds : List (Decl Term)) (g h : ℕ) → AreCoupled ds g h → AreCoupled ds h g
turned ds g h c = record {
  first = c.second;
  second = c.first;
  apart = λ e. c.apart (sym e);
  shared = (c.shared.0, c.shared.2, c.shared.1);
}

pub coupling_is_symmetric : CouplingIsSymmetric
coupling_is_symmetric ds g h goal e =
    let c = (coupling_is_decided ds g h goal).0 e in
    (coupling_is_decided ds h g c.second).1 (turned ds g h c)

pub dormant_goals_count : DormantGoalsCount
dormant_goals_count s g h k goal dormant apart one two =
    (coupling_is_decided s.metas g h goal).1 (record {
      first = goal;
      second = (open_is s.metas h).0 (and_left (is_open s.metas h) _ dormant);
      apart = apart;
      shared = (k, one, two);
    })
