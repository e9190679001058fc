-- The order of the cut takes the least possible number first.
use Rattle.std.proofs.Common.{◌≡◌, ℕ, zero, suc, ◌<◌, ◌≤◌, List, [], ◌∷◌, ◌++◌, ◌⊎◌, inl, inr, Bool, true, false, ◌||◌, Option, Some, None, refl, sym, ◌∙◌, subst as transport, nat_eq, length, arith, if◌then◌else◌}
use Rattle.std.proofs.lemmas.Bool.{eq-eqb, eqb-true}
use Rattle.std.proofs.lemmas.List.{append-nil}
use Rattle.ld_trees.specs.Term.{Terms}
use Rattle.meta_trees.specs.MetaContext.{Metas}
use Rattle.meta_trees.specs.Dependencies.{below, dependencies, parts_of, Depends, depends}
use Rattle.meta_laws.specs.Cut.{listed, without, possible, all_listed, IsLeastFirst, arrange, chosen, order, IsOrdered, IsCutOrder}
use Rattle.meta_laws.specs.Laws.{OrderIsUnique}
use Rattle.meta_trees.proofs.Dependencies.{or_split, or_left, or_right}
use Rattle.meta_laws.proofs.Lists.{listed_append, listed_one, below_sound, without_less, not_both, each_all_listed}
use Rattle.meta_laws.proofs.Order.{moved_listed, possible_some, dependency, is_dependency, order_is, acyclic}

abbrev pub Ascending : List ℕ → Type 0
Ascending [] = Unit {0}
Ascending (k ∷ K) = ((j : ℕ) → listed j K ≡ true → k < j) × Ascending K

append_ascending : (K : List ℕ) (n : ℕ) → Ascending K → ((j : ℕ) → listed j K ≡ true → j < n) → Ascending (K ++ (n ∷ []))
append_ascending [] n a f = (λ j h. absurd cc, tt)
append_ascending (k ∷ K) n a f = (
  λ j h. elim (or_split (listed j K) _ (sym (listed_append j K (n ∷ [])) ∙ h)) [
    | inl e ↦ a.0 j e
    | inr e ↦ let q = listed_one j n true e in let l = f k (or_left (nat_eq k k) _ (eq-eqb k k refl)) in let r = q.0 in omega arith
  ],
  append_ascending K n a.1 (λ j h. f j (or_right (nat_eq k j) _ h)),
)

below_ascending : (p : ℕ → Bool) (n : ℕ) → Ascending (below p n)
below_ascending p zero = tt
below_ascending p (suc n) = go (p n) (below_ascending p n)
  where
    go : (b : Bool) → Ascending (below p n) → Ascending (below p n ++ (if b then n ∷ [] else []))
    go true a = append_ascending (below p n) n a (λ j h. (below_sound p n j h).0)
    go false a = transport Ascending (sym (append-nil (below p n))) a

without_ascending : (k : ℕ) (L : List ℕ) → Ascending L → Ascending (without k L)
without_ascending k [] a = tt
without_ascending k (m ∷ L) a = go (nat_eq m k) (without_ascending k L a.1)
  where
    go : (b : Bool) → Ascending (without k L) → Ascending (if b then L else m ∷ without k L)
    go true r = a.1
    go false r = (λ j h. a.0 j (without_less k j L h), r)

-- what is chosen is not above any other that is possible
first_least : (Σ : Metas) (L K : List ℕ) (k j : ℕ) → Ascending K → possible Σ L K ≡ Some k → listed j K ≡ true → all_listed (dependencies Σ (parts_of Σ j)) L ≡ true → k ≤ j
first_least Σ L [] k j a p h w = absurd cc
first_least Σ L (m ∷ K) k j a p h w = go (all_listed (dependencies Σ (parts_of Σ m)) L) refl p (or_split (nat_eq m j) _ h) (λ q e. first_least Σ L K k j a.1 q e w)
  where
    go : (b : Bool) → all_listed (dependencies Σ (parts_of Σ m)) L ≡ b → (if b then Some m else possible Σ L K) ≡ Some k → (nat_eq m j ≡ true) ⊎ (listed j K ≡ true) → (possible Σ L K ≡ Some k → listed j K ≡ true → k ≤ j) → k ≤ j
    go true e q (inl x) f = let r : m ≡ k = cc in let s = eqb-true m j x in omega arith
    go true e q (inr x) f = let r : m ≡ k = cc in let s = a.0 j x in omega arith
    go false e q (inl x) f = absurd (not_both _ w (transport (λ i. all_listed (dependencies Σ (parts_of Σ i)) L ≡ false) (eqb-true m j x) e))
    go false e q (inr x) f = f q x

-- each dependency is left or placed
abbrev Covers : Metas → Terms → List ℕ → List ℕ → Type 0
Covers Σ X rest L = (j : ℕ) → Depends Σ X j → j < length Σ → (listed j rest || listed j L) ≡ true

in_rest : (a b : Bool) → (a || b) ≡ true → b ≡ false → a ≡ true
in_rest true b p q = refl
in_rest false b p q = absurd cc

least_first : (Σ : Metas) (X : Terms) (n : ℕ) (rest L : List ℕ) → Ascending rest → Covers Σ X rest L → IsLeastFirst Σ X L → IsLeastFirst Σ X (arrange Σ n rest L)
least_first Σ X zero rest L a c h = h
least_first Σ X (suc n) rest L a c h = go (possible Σ L rest) refl (λ k. least_first Σ X n (without k rest) (k ∷ L))
  where
    go : (o : Option ℕ) → possible Σ L rest ≡ o → ((k : ℕ) → Ascending (without k rest) → Covers Σ X (without k rest) (k ∷ L) → IsLeastFirst Σ X (k ∷ L) → IsLeastFirst Σ X (arrange Σ n (without k rest) (k ∷ L))) → IsLeastFirst Σ X (chosen L (λ k. arrange Σ n (without k rest) (k ∷ L)) o)
    go None p f = h
    go (Some k) p f =
        f k (without_ascending k rest a) (λ j D l. moved_listed k j rest L (possible_some Σ L rest k p).0 ∙ c j D l)
        (h, λ j D l w g. first_least Σ L rest k j a p (in_rest (listed j rest) (listed j L) (c j D l) w) (each_all_listed (dependencies Σ (parts_of Σ j)) L (λ i z. let d = dependency Σ (parts_of Σ j) i z in g i d.1 d.0)))

pub order_least : (Σ : Metas) (X : Terms) → IsLeastFirst Σ X (order Σ X)
order_least Σ X = least_first Σ X (length (dependencies Σ X)) (dependencies Σ X) [] (below_ascending (depends Σ X) (length Σ)) (λ j D l. or_left (listed j (dependencies Σ X)) false (is_dependency Σ X j l D)) tt

-- Two such orders are one.
data Suffix (L : List ℕ) : List ℕ → Type 0 where
  here : Suffix L L
  there : {m : ℕ} {M : List ℕ} → Suffix L M → Suffix L (m ∷ M)

nil_suffix : (M : List ℕ) → Suffix [] M
nil_suffix [] = here
nil_suffix (m ∷ M) = there (nil_suffix M)

next_in : {L M : List ℕ} → Suffix L M → (L ≡ M) ⊎ ((a : ℕ) × Suffix (a ∷ L) M)
next_in here = inl refl
next_in {L} (there {m = m} {M = M} s) = elim (next_in s) [
  | inl e ↦ inr (m, transport (λ K. Suffix (m ∷ L) (m ∷ K)) e here)
  | inr t ↦ inr (t.0, there t.1)
]

suffix_ordered : (Σ : Metas) {L M : List ℕ} → Suffix L M → IsOrdered Σ M → IsOrdered Σ L
suffix_ordered Σ here o = o
suffix_ordered Σ (there s) o = suffix_ordered Σ s o.0

suffix_least : (Σ : Metas) (X : Terms) {L M : List ℕ} → Suffix L M → IsLeastFirst Σ X M → IsLeastFirst Σ X L
suffix_least Σ X here o = o
suffix_least Σ X (there s) o = suffix_least Σ X s o.0

suffix_listed : {L M : List ℕ} (k : ℕ) → Suffix L M → listed k L ≡ true → listed k M ≡ true
suffix_listed k here h = h
suffix_listed k (there {m = m} s) h = or_right (nat_eq m k) _ (suffix_listed k s h)

first_listed : (k : ℕ) (L : List ℕ) → listed k (k ∷ L) ≡ true
first_listed k L = or_left (nat_eq k k) _ (eq-eqb k k refl)

comparable : (Σ : Metas) (X : Terms) (L M : List ℕ) → IsOrdered Σ L → IsLeastFirst Σ X L → ((k : ℕ) → listed k L ≡ true → Depends Σ X k) → IsOrdered Σ M → IsLeastFirst Σ X M → ((k : ℕ) → listed k M ≡ true → Depends Σ X k) → Suffix L M ⊎ Suffix M L
comparable Σ X [] M o l f p q g = inl (nil_suffix M)
comparable Σ X (k ∷ L) M o l f p q g = elim (comparable Σ X L M o.0 l.0 (λ j h. f j (or_right (nat_eq k j) _ h)) p q g) [
  | inl s ↦ go (next_in s)
  | inr s ↦ inr (there s)
]
  where
    same_next : (a : ℕ) → Suffix (a ∷ L) M → a ≡ k
    same_next a t =
        let oa = suffix_ordered Σ t p in
        let la = suffix_least Σ X t q in
        let x = la.1 k (f k (first_listed k L)) o.2 o.1 o.3 in
        let y = l.1 a (g a (suffix_listed a t (first_listed a L))) oa.2 oa.1 oa.3 in
        omega arith

    go : (L ≡ M) ⊎ ((a : ℕ) × Suffix (a ∷ L) M) → Suffix (k ∷ L) M ⊎ Suffix M (k ∷ L)
    go (inl e) = inr (transport (λ K. Suffix K (k ∷ L)) e (there here))
    go (inr t) = inl (transport (λ i. Suffix (i ∷ L) M) (same_next t.0 t.1) t.1)

whole_suffix : (Σ : Metas) (L M : List ℕ) → IsOrdered Σ M → ((k : ℕ) → listed k M ≡ true → listed k L ≡ true) → Suffix L M → L ≡ M
whole_suffix Σ L M o f s = go (next_in s)
  where
    go : (L ≡ M) ⊎ ((a : ℕ) × Suffix (a ∷ L) M) → L ≡ M
    go (inl e) = e
    go (inr t) = absurd (not_both _ (f t.0 (suffix_listed t.0 t.1 (first_listed t.0 L))) (suffix_ordered Σ t.1 o).1)

pub order_unique : (Σ : Metas) (X : Terms) (L M : List ℕ) → IsCutOrder Σ X L → IsCutOrder Σ X M → L ≡ M
order_unique Σ X L M a b = elim (comparable Σ X L M a.ordered a.least (λ k h. ((a.exact k).0 h).1) b.ordered b.least (λ k h. ((b.exact k).0 h).1)) [
  | inl s ↦ whole_suffix Σ L M b.ordered (λ k h. (a.exact k).1 ((b.exact k).0 h)) s
  | inr s ↦ sym (whole_suffix Σ M L a.ordered (λ k h. (b.exact k).1 ((a.exact k).0 h)) s)
]

pub order_is_unique : OrderIsUnique
order_is_unique Δ Σ X ok =
    let o = order_is Σ X (acyclic Σ ok.acyclic) in
    let c : IsCutOrder Σ X (order Σ X) = record {
      ordered = o.0;
      least = order_least Σ X;
      exact = λ k. (λ h. dependency Σ X k (sym (o.1 k) ∙ h), λ h. o.1 k ∙ is_dependency Σ X k h.0 h.1);
    } in
    (c, λ L l. order_unique Σ X L (order Σ X) l c)
