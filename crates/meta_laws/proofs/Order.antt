-- The order of the cut.
use Rattle.std.proofs.Common.{◌≡◌, ℕ, zero, suc, ◌<◌, ◌≤◌, List, [], ◌∷◌, inl, inr, Bool, true, false, ◌||◌, Option, Some, None, refl, sym, ap, ◌∙◌, subst as transport, nat_eq, length, arith, if◌then◌else◌}
use Rattle.std.proofs.lemmas.Bool.{eq-eqb, eqb-true}
use Rattle.ld_trees.specs.Term.{Terms}
use Rattle.meta_trees.specs.MetaContext.{Metas, Decl, decl}
use Rattle.meta_trees.specs.Dependencies.{dependencies, Depends, depends, parts_of, parts, parts_if}
use Rattle.meta_laws.specs.Cut.{listed, possible, all_listed, order, IsOrdered, without, arrange, chosen}
use Rattle.meta_trees.proofs.Dependencies.{reaches_sound, reaches_complete, nothing_depends, or_left, or_split, depends_parts, or_right}
use Rattle.meta_laws.proofs.Lists.{below_sound, below_complete, not_both, Distinct, without_listed, all_listed_each, without_distinct, or_false, is_false, without_own, without_less, each_all_listed, without_length, below_distinct}

pub dependency : (Σ : Metas) (X : Terms) (k : ℕ) → listed k (dependencies Σ X) ≡ true → (k < length Σ) × Depends Σ X k
dependency Σ X k h = let a = below_sound (depends Σ X) (length Σ) k h in (a.0, reaches_sound Σ (length Σ) X k a.1)

pub is_dependency : (Σ : Metas) (X : Terms) (k : ℕ) → k < length Σ → Depends Σ X k → listed k (dependencies Σ X) ≡ true
is_dependency Σ X k l D = below_complete (depends Σ X) (length Σ) k l (reaches_complete D)

-- no metavariable is among its own dependencies, declared or not
abbrev pub Acyclic : Metas → Type 0
Acyclic Σ = (m : ℕ) → ¬ Depends Σ (parts_of Σ m) m

abbrev pub NoCycle : Metas → Type 0
NoCycle Σ = (m : ℕ) (d : Decl) → decl m Σ ≡ Some d → ¬ Depends Σ (parts d) m

pub acyclic : (Σ : Metas) → NoCycle Σ → Acyclic Σ
acyclic Σ ac m D = go (decl m Σ) refl D
  where
    go : (o : Option Decl) → decl m Σ ≡ o → Depends Σ (parts_if o) m → ⊥
    go None p E = nothing_depends E
    go (Some d) p E = ac m d p E

abbrev Least : Metas → ℕ → List ℕ → Type 0
Least Σ m L = (j : ℕ) → listed j L ≡ true → ¬ Depends Σ (parts_of Σ m) j

-- one of some numbers depends on none of them
minimal : (Σ : Metas) → Acyclic Σ → (x : ℕ) (L : List ℕ) → (m : ℕ) × (listed m (x ∷ L) ≡ true) × Least Σ m (x ∷ L)
minimal Σ ac x [] = (
  x,
  or_left (nat_eq x x) false (eq-eqb x x refl),
  λ j h D. elim (or_split (nat_eq x j) false h) [
    | inl e ↦ ac x (transport (λ i. Depends Σ (parts_of Σ x) i) (sym (eqb-true x j e)) D)
    | inr e ↦ absurd cc
  ],
)
minimal Σ ac x (y ∷ L) =
    let m = minimal Σ ac y L in go m.0 m.1 m.2 (depends Σ (parts_of Σ m.0) x) refl
  where
    go : (m : ℕ) → listed m (y ∷ L) ≡ true → Least Σ m (y ∷ L) → (b : Bool) → depends Σ (parts_of Σ m) x ≡ b → (k : ℕ) × (listed k (x ∷ y ∷ L) ≡ true) × Least Σ k (x ∷ y ∷ L)
    go m h least true e = (
      x,
      or_left (nat_eq x x) _ (eq-eqb x x refl),
      λ j w D. elim (or_split (nat_eq x j) _ w) [
        | inl q ↦ ac x (transport (λ i. Depends Σ (parts_of Σ x) i) (sym (eqb-true x j q)) D)
        | inr q ↦ least j q (depends_parts x (reaches_sound Σ (length Σ) (parts_of Σ m) x e) D)
      ],
    )
    go m h least false e = (
      m,
      or_right (nat_eq x m) _ h,
      λ j w D. elim (or_split (nat_eq x j) _ w) [
        | inl q ↦ not_both _ (reaches_complete (transport (λ i. Depends Σ (parts_of Σ m) i) (sym (eqb-true x j q)) D)) e
        | inr q ↦ least j q D
      ],
    )

-- what is chosen is among the rest, and possible
pub possible_some : (Σ : Metas) (L K : List ℕ) (k : ℕ) → possible Σ L K ≡ Some k → (listed k K ≡ true) × (all_listed (dependencies Σ (parts_of Σ k)) L ≡ true)
possible_some Σ L [] k h = absurd cc
possible_some Σ L (m ∷ K) k h = go (all_listed (dependencies Σ (parts_of Σ m)) L) refl h (possible_some Σ L K k)
  where
    go : (b : Bool) → all_listed (dependencies Σ (parts_of Σ m)) L ≡ b → (if b then Some m else possible Σ L K) ≡ Some k → (possible Σ L K ≡ Some k → (listed k K ≡ true) × (all_listed (dependencies Σ (parts_of Σ k)) L ≡ true)) → (listed k (m ∷ K) ≡ true) × (all_listed (dependencies Σ (parts_of Σ k)) L ≡ true)
    go true e p f = let q : m ≡ k = cc in (or_left (nat_eq m k) _ (eq-eqb m k q), transport (λ i. all_listed (dependencies Σ (parts_of Σ i)) L ≡ true) q e)
    go false e p f = let r = f p in (or_right (nat_eq m k) _ r.0, r.1)

possible_none : (Σ : Metas) (L K : List ℕ) (k : ℕ) → possible Σ L K ≡ None → listed k K ≡ true → all_listed (dependencies Σ (parts_of Σ k)) L ≡ false
possible_none Σ L [] k h w = absurd cc
possible_none Σ L (m ∷ K) k h w = go (all_listed (dependencies Σ (parts_of Σ m)) L) refl h (possible_none Σ L K k)
  where
    go : (b : Bool) → all_listed (dependencies Σ (parts_of Σ m)) L ≡ b → (if b then Some m else possible Σ L K) ≡ None → (possible Σ L K ≡ None → listed k K ≡ true → all_listed (dependencies Σ (parts_of Σ k)) L ≡ false) → all_listed (dependencies Σ (parts_of Σ k)) L ≡ false
    go true e p f = absurd cc
    go false e p f = elim (or_split (nat_eq m k) _ w) [
      | inl q ↦ transport (λ i. all_listed (dependencies Σ (parts_of Σ i)) L ≡ false) (eqb-true m k q) e
      | inr q ↦ f p q
    ]

record Arranging (Σ : Metas) (rest L : List ℕ) : Type 0 where
  ordered : IsOrdered Σ L
  distinct : Distinct rest
  apart : (k : ℕ) → listed k rest ≡ true → listed k L ≡ false
  closed : (k j : ℕ) → listed k rest ≡ true → Depends Σ (parts_of Σ k) j → j < length Σ → (listed j rest || listed j L) ≡ true
  declared : (k : ℕ) → listed k rest ≡ true → k < length Σ

abbrev Arranged : Metas → List ℕ → List ℕ → List ℕ → Type 0
Arranged Σ rest L M = IsOrdered Σ M × ((k : ℕ) → listed k M ≡ (listed k rest || listed k L))

or_swap : (a b c : Bool) → (b || (a || c)) ≡ ((a || b) || c)
or_swap true true c = refl
or_swap true false c = refl
or_swap false b c = refl

pub moved_listed : (k j : ℕ) (rest L : List ℕ) → listed k rest ≡ true → (listed j (without k rest) || listed j (k ∷ L)) ≡ (listed j rest || listed j L)
moved_listed k j rest L h = or_swap (nat_eq k j) (listed j (without k rest)) (listed j L) ∙ ap (λ b. b || listed j L) (sym (without_listed k j rest h))

moved : (Σ : Metas) (rest L : List ℕ) (k : ℕ) → Arranging Σ rest L → listed k rest ≡ true → all_listed (dependencies Σ (parts_of Σ k)) L ≡ true → Arranging Σ (without k rest) (k ∷ L)
moved Σ rest L k g h a = record {
  ordered = (g.ordered, g.apart k h, g.declared k h, λ j D l. all_listed_each _ L a j (is_dependency Σ _ j l D));
  distinct = without_distinct k rest g.distinct;
  apart = λ j w. or_false (nat_eq k j) _ (is_false _ (λ e. not_both _ (transport (λ i. listed i (without k rest) ≡ true) (sym (eqb-true k j e)) w) (without_own k rest g.distinct))) (g.apart j (without_less k j rest w));
  closed = λ i j w D l. moved_listed k j rest L h ∙ g.closed i j (without_less k i rest w) D l;
  declared = λ j w. g.declared j (without_less k j rest w);
}

-- where none is possible none is left
none_left : (Σ : Metas) → Acyclic Σ → (rest L : List ℕ) → Arranging Σ rest L → possible Σ L rest ≡ None → Arranged Σ rest L L
none_left Σ ac [] L g p = (g.ordered, λ k. refl)
none_left Σ ac (x ∷ K) L g p =
    let m = minimal Σ ac x K in
    absurd (not_both _ (each_all_listed (dependencies Σ (parts_of Σ m.0)) L (λ j h.
    let d = dependency Σ (parts_of Σ m.0) j h in
    elim (or_split (listed j (x ∷ K)) _ (g.closed m.0 j m.1 d.1 d.0)) [
      | inl e ↦ absurd (m.2 j e d.1)
      | inr e ↦ e
    ])) (possible_none Σ L (x ∷ K) m.0 p m.1))

arranged : (Σ : Metas) → Acyclic Σ → (n : ℕ) (rest L : List ℕ) → length rest ≤ n → Arranging Σ rest L → Arranged Σ rest L (arrange Σ n rest L)
arranged Σ ac zero [] L l g = (g.ordered, λ k. refl)
arranged Σ ac zero (x ∷ K) L l g = absurd (omega arith)
arranged Σ ac (suc n) rest L l g = go (possible Σ L rest) refl (λ k a b. arranged Σ ac n (without k rest) (k ∷ L) a b)
  where
    go : (o : Option ℕ) → possible Σ L rest ≡ o → ((k : ℕ) → length (without k rest) ≤ n → Arranging Σ (without k rest) (k ∷ L) → Arranged Σ (without k rest) (k ∷ L) (arrange Σ n (without k rest) (k ∷ L))) → Arranged Σ rest L (chosen L (λ k. arrange Σ n (without k rest) (k ∷ L)) o)
    go None p f = none_left Σ ac rest L g p
    go (Some k) p f =
        let q = possible_some Σ L rest k p in
        let m = without_length k rest q.0 in
        let r = f k (omega arith) (moved Σ rest L k g q.0 q.1) in
        (r.0, λ j. r.1 j ∙ moved_listed k j rest L q.0)

or_none : (b : Bool) → (b || false) ≡ b
or_none true = refl
or_none false = refl

-- the order holds exactly the declared dependencies, each after its own
pub order_is : (Σ : Metas) (X : Terms) → Acyclic Σ → IsOrdered Σ (order Σ X) × ((k : ℕ) → listed k (order Σ X) ≡ listed k (dependencies Σ X))
order_is Σ X ac =
    let ds = dependencies Σ X in
    let r = arranged Σ ac (length ds) ds [] (omega arith) record {
      ordered = tt;
      distinct = below_distinct (depends Σ X) (length Σ);
      apart = λ k h. refl;
      closed = λ k j h D l. or_left (listed j ds) false (is_dependency Σ X j l (depends_parts k (dependency Σ X k h).1 D));
      declared = λ k h. (dependency Σ X k h).0;
    } in
    (r.0, λ k. r.1 k ∙ or_none _)
