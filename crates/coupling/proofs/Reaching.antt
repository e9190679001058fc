-- The marks on a metavariable and its dependencies, as they are made.
use Rattle.std.proofs.Common.{◌≡◌, ◌≢◌, ◌<◌, ◌≤◌, ◌⊎◌, inl, inr, ℕ, zero, suc, List, [], Bool, true, false, nat_eq, length, get_or, set, refl, sym, ◌∙◌, subst, arith, get_or-set_same, get_or-set_other}
use Rattle.std.specs.Prelude.{Contains, sum_by}
use Rattle.std.proofs.lemmas.Bool.{eqb-true, eqb-false}
use Rattle.std.proofs.lemmas.List.{length-set, get_or_past}
use Rattle.ld_trees.specs.Term.{Term}
use Rattle.meta_trees.specs.MetaContext.{Metas}
use Rattle.meta_trees.specs.Dependencies.{occurs_in, parts_of, Depends, direct, through}
use Rattle.meta_trees.proofs.Dependencies.{depends_parts, declared_below, parts_are}
use Rattle.meta_context.proofs.Entering.{contains_nothing}
use Rattle.coupling.specs.Looks.{remembered}
use Rattle.coupling.specs.Marks.{IsMarked, AreKnown, Marks, IsReached, Reaches}
use Rattle.coupling.specs.declared.looks.Looks.{Looks}
use Rattle.coupling.proofs.Marking.{still, rises, left_of, fewer_left}

-- what is in the parts of what is reached is reached
pub reached_more : (Σ : Metas) (g m k : ℕ) → IsReached Σ g m → occurs_in k (parts_of Σ m) ≡ true → IsReached Σ g k
reached_more Σ g m k (inl q) o = inr (direct (subst (λ j. occurs_in k (parts_of Σ j) ≡ true) (sym q) o))
reached_more Σ g m k (inr D) o = inr (depends_parts m D (direct o))

-- Of what has a mark, some was met only, and of the rest each part has a mark.
pub record IsReaching {H : Type 0} (means : H → Term) (Σ : Metas) (g : ℕ) (seen : Looks H) (ms : List ℕ) : Type 0 where
  pub known : AreKnown means seen ms
  pub begun : IsMarked ms g
  pub sound : (k : ℕ) → IsMarked ms k → IsReached Σ g k
  pub done : (m : ℕ) → 2 ≤ get_or ms m 0 → (k : ℕ) → k < length ms → occurs_in k (parts_of Σ m) ≡ true → IsMarked ms k

-- a number that was set, and the others
at_set : (ms : List ℕ) (m x k : ℕ) → m < length ms → ((m ≡ k) × (get_or (set ms m x) k 0 ≡ x)) ⊎ (get_or (set ms m x) k 0 ≡ get_or ms k 0)
at_set ms m x k l = go (nat_eq m k) refl
  where
    go : (b : Bool) → nat_eq m k ≡ b → ((m ≡ k) × (get_or (set ms m x) k 0 ≡ x)) ⊎ (get_or (set ms m x) k 0 ≡ get_or ms k 0)
    go true e = let q : m ≡ k = eqb-true m k e in inl (q, subst (λ i. get_or (set ms m x) i 0 ≡ x) q (get_or-set_same ms m x 0 l))
    go false e = let n : m ≢ k = eqb-false m k e in inr (get_or-set_other ms m k x 0 (λ q. n (sym q)))

lt_or_le : (k n : ℕ) → (k < n) ⊎ (n ≤ k)
lt_or_le k zero = inr (omega arith)
lt_or_le zero (suc n) = inl (omega arith)
lt_or_le (suc k) (suc n) = elim (lt_or_le k n) [ inl l ↦ inl (omega arith) | inr l ↦ inr (omega arith) ]

-- no mark but that of g
module _ {H : Type 0} (means : H → Term) (Σ : Metas) (g : ℕ) (seen : Looks H) (ms : List ℕ) (fresh : remembered seen ≡ []) (bare : (k : ℕ) → k < length ms → get_or ms k 0 ≡ 0) (inside : g < length ms) where
  bare_all : (k : ℕ) → get_or ms k 0 ≡ 0
  bare_all k = elim (lt_or_le k (length ms)) [ inl l ↦ bare k l | inr l ↦ get_or_past ms k 0 l ]

  only_g : (k : ℕ) → IsMarked (set ms g 1) k → g ≡ k
  only_g k l = elim (at_set ms g 1 k inside) [
    | inl w ↦ w.0
    | inr e ↦ let z = bare_all k in absurd (omega (arith, l, e, z))
  ]

  pub reaching_begun : IsReaching means Σ g seen (set ms g 1)
  reaching_begun = record {
    known = λ x c. absurd (contains_nothing x (subst (λ xs. Contains xs x) fresh c));
    begun = let e = get_or-set_same ms g 1 0 inside in omega (arith, e);
    sound = λ k l. inl (only_g k l);
    done = λ m l. elim (at_set ms g 1 m inside) [
      | inl w ↦ let e = w.1 in absurd (omega (arith, l, e))
      | inr e ↦ let z = bare_all m in absurd (omega (arith, l, e, z))
    ];
  }

-- a metavariable that was met is looked at
module _ {H : Type 0} (means : H → Term) (Σ : Metas) (g m : ℕ) (seen : Looks H) (ms : List ℕ) (r : IsReaching means Σ g seen ms) (inside : m < length ms) (met : get_or ms m 0 ≡ 1) where
  looked_still : (k : ℕ) → IsMarked ms k → IsMarked (set ms m 2) k
  looked_still k l = elim (at_set ms m 2 k inside) [
    | inl w ↦ let e = w.1 in omega (arith, e)
    | inr e ↦ omega (arith, l, e)
  ]

  looked_same : (k : ℕ) → IsMarked (set ms m 2) k → IsMarked ms k
  looked_same k l = elim (at_set ms m 2 k inside) [
    | inl w ↦ let q = w.0 in subst (IsMarked ms) q (omega (arith, met))
    | inr e ↦ omega (arith, l, e)
  ]

  pub looked_known : AreKnown means seen (set ms m 2)
  looked_known x c k l o = let n = length-set ms m 2 in looked_still k (r.known x c k (omega (arith, l, n)) o)

  module _ (seen' : Looks H) (ms' : List ℕ) (a : Marks means (λ k. occurs_in k (parts_of Σ m)) (set ms m 2) seen' ms') where
    abbrev Parts : ℕ → Bool
    Parts k = occurs_in k (parts_of Σ m)

    kept : (k : ℕ) → IsMarked ms k → IsMarked ms' k
    kept k l = still Parts (set ms m 2) ms' a.marked k (looked_still k l)

    m_reached : IsReached Σ g m
    m_reached = r.sound m (omega (arith, met))

    sized : length ms' ≡ length ms
    sized = a.marked.sized ∙ length-set ms m 2

    sound_still : (k : ℕ) → IsMarked ms' k → IsReached Σ g k
    sound_still k l = elim (a.marked.each k) [
      | inl e ↦ r.sound k (looked_same k (omega (arith, l, e)))
      | inr w ↦ reached_more Σ g m k m_reached w.2
    ]

    done_still : (j : ℕ) → 2 ≤ get_or ms' j 0 → (k : ℕ) → k < length ms' → occurs_in k (parts_of Σ j) ≡ true → IsMarked ms' k
    done_still j l k b o = elim (a.marked.each j) [
      | inr w ↦ let e = w.1 in absurd (omega (arith, l, e))
      | inl e ↦ elim (at_set ms m 2 j inside) [
        | inl w ↦ let s = a.marked.sized in a.marked.all k (omega (arith, b, s)) (subst (λ i. occurs_in k (parts_of Σ i) ≡ true) (sym w.0) o)
        | inr f ↦ let s = sized in kept k (r.done j (omega (arith, l, e, f)) k (omega (arith, b, s)) o)
      ]
    ]

    pub reaching_next : IsReaching means Σ g seen' ms'
    reaching_next = record { known = a.known; begun = kept g r.begun; sound = sound_still; done = done_still }

    rises_both : (k : ℕ) → get_or ms k 0 ≤ get_or ms' k 0
    rises_both k = let up = rises Parts (set ms m 2) ms' a.marked k in elim (at_set ms m 2 k inside) [
      | inl w ↦ let q = w.0 in let e = w.1 in let x : get_or ms k 0 ≡ 1 = subst (λ i. get_or ms i 0 ≡ 1) q met in omega (arith, up, e, x)
      | inr e ↦ omega (arith, up, e)
    ]

    pub reaching_smaller : sum_by left_of ms' < sum_by left_of ms
    reaching_smaller =
        let up = rises Parts (set ms m 2) ms' a.marked m in
        let e = get_or-set_same ms m 2 0 inside in
        fewer_left ms ms' m sized rises_both inside met (omega (arith, up, e))

-- nothing waits any more
module _ {H : Type 0} (means : H → Term) (Σ : Metas) (g : ℕ) (seen : Looks H) (ms : List ℕ) (r : IsReaching means Σ g seen ms) (ended : (k : ℕ) → k < length ms → get_or ms k 0 ≢ 1) (long : length ms ≡ length Σ) (inside : g < length ms) where
  looked_at : (m : ℕ) → m < length ms → IsMarked ms m → 2 ≤ get_or ms m 0
  looked_at m l b = let n = ended m l in omega (arith, b, n)

  all_marked : (k : ℕ) → k < length ms → Depends Σ (parts_of Σ g) k → IsMarked ms k
  all_marked k l (direct o) = r.done g (looked_at g inside r.begun) k l o
  all_marked k l (through {m = m} d D p o) =
      let n = declared_below Σ m d p in
      let b : m < length ms = omega (arith, n, long) in
      r.done m (looked_at m b (all_marked m b D)) k l (subst (λ X. occurs_in k X ≡ true) (sym (parts_are Σ m d p)) o)

  pub reached_all : Reaches Σ g ms
  reached_all = record {
    sound = r.sound;
    whole = λ k l x. elim x [
      | inl q ↦ subst (IsMarked ms) q r.begun
      | inr D ↦ all_marked k l D
    ];
  }
