-- One part more or changed.
use Rattle.std.proofs.Common.{◌≡◌, ℕ, ◌<◌, ◌≤◌, ◌+◌, ◌-◌, List, [], ◌∷◌, ◌++◌, length, refl, ap, sym, ◌∙◌, subst, get_or, set, take, drop, map, arith, length-append, append_assoc, append-nil}
use Rattle.std.specs.Prelude.{T, Bool, cond, is_some, Result, Ok, Err, IfOk, IfErr}
use Rattle.std.specs.FinMap.Entries.{length-put}
use Rattle.std.specs.List.{take-map, drop-map}
use Rattle.std.proofs.lemmas.Grind.{common_steps}
use Rattle.std.proofs.lemmas.List.Concat.{flat_map-append}
use Rattle.std.proofs.lemmas.List.{get_or-map, length-map, map-append, map-set}
use Rattle.std.proofs.Math.Seq.{map-set_same}
use Rattle.std.proofs.lemmas.Result.{IfOk-weaker}
use Rattle.std.specs.FinMap.{find, put, is_sorted}
use Rattle.std.specs.Cmp.{IsTotalOrder}
use Rattle.std.specs.declared.cmp.Ordering.{Ordering}
use Rattle.shared_map.specs.Blocks.{IsLeaf, IsNode, IsMap, joined, NoneEmpty}
use Rattle.shared_map.specs.Search.{IsPlace, cmp_first}
use Rattle.shared_map.specs.Grown.{AreBlocks, parts_of, MatchTried}
use Rattle.shared_map.specs.declared.part.Grown.{Grown}
use Rattle.shared_map.specs.declared.part.Grown.TheVariants.{One, Two}
use Rattle.shared_map.specs.declared.part.Tried.{Tried}
use Rattle.shared_map.specs.declared.part.Tried.TheVariants.{Put, Full}
use Rattle.shared_map.proofs.Around.{find_around, put_around, sorted_left, sorted_right}
use Rattle.shared_map.proofs.Cuts.{joined_cut, place_around, set_cut, set_two, full_at}
use Rattle.shared_map.proofs.Edits.{put_sorted, put_some}

pub put_together : {P A : Type 0} (f : P → A) (ps : List P) (at : ℕ) (gs a b c : List A) → at < length ps → a ≡ [] ++ map f (take at ps) → b ≡ a ++ gs →
    c ≡ b ++ map f (take (length ps - (at + 1)) (drop (at + 1) ps)) → c ≡ take at (map f ps) ++ (gs ++ drop (at + 1) (map f ps))
put_together f ps at gs a b c lt ha hb hc =
    let e : take (length ps - (at + 1)) (drop (at + 1) ps) ≡ drop (at + 1) ps = grind (arith, common_steps) in
    rw (hc, hb, ha, e, take-map, drop-map) (append_assoc (map f (take at ps)) gs _)

pub value_at : {P A : Type 0} (f : P → List A) (ps : List P) (i : ℕ) (p : P) → i < length ps → p ≡ get_or ps i p → get_or (map f ps) i [] ≡ f p
value_at f ps i p lt e = get_or-map f ps i p [] lt ∙ ap f (sym e)

NoneEmpty-append : {A : Type 0} (ps qs : List (List A)) → NoneEmpty ps → NoneEmpty qs → NoneEmpty (ps ++ qs)
NoneEmpty-append [] qs p q = q
NoneEmpty-append (x ∷ ps) qs p q = (p.0, NoneEmpty-append ps qs p.1 q)

full_left : {A : Type 0} (ps qs : List (List A)) → NoneEmpty (ps ++ qs) → NoneEmpty ps
full_left [] qs f = tt
full_left (p ∷ ps) qs f = (f.0, full_left ps qs f.1)

full_right : {A : Type 0} (ps qs : List (List A)) → NoneEmpty (ps ++ qs) → NoneEmpty qs
full_right [] qs f = f
full_right (p ∷ ps) qs f = full_right ps qs f.1

halves : {A : Type 0} (xs : List A) (n : ℕ) → xs ≡ take n xs ++ drop n xs
halves xs n = grind (arith, common_steps)

full_take : {A : Type 0} (ps : List (List A)) (n : ℕ) → NoneEmpty ps → NoneEmpty (take n ps)
full_take ps n f = full_left (take n ps) (drop n ps) (subst NoneEmpty (halves ps n) f)

full_drop : {A : Type 0} (ps : List (List A)) (n : ℕ) → NoneEmpty ps → NoneEmpty (drop n ps)
full_drop ps n f = full_right (take n ps) (drop n ps) (subst NoneEmpty (halves ps n) f)

pub some_joined : {A : Type 0} (ps : List (List A)) → NoneEmpty ps → 0 < length ps → 0 < length (joined ps)
some_joined [] f lt = lt
some_joined (p ∷ ps) f lt = let h = f.0 in omega (arith, length-append p (joined ps))

pub parts_few : {A : Type 0} (g : Grown A) → length (parts_of g) ≤ 2
parts_few (One p) = omega arith
parts_few (Two p q) = omega arith

pub parts_some : {A : Type 0} (g : Grown A) → 1 ≤ length (parts_of g)
parts_some (One p) = omega arith
parts_some (Two p q) = omega arith

length_of_map : {P A : Type 0} (f : P → A) (ps qs : List P) (at : ℕ) (g : Grown A) → at < length qs → map f ps ≡ take at (map f qs) ++ (parts_of g ++ drop (at + 1) (map f qs)) →
    length ps + 1 ≡ length qs + length (parts_of g)
length_of_map f ps qs at g lt e =
    let p : length (map f ps) ≡ length ps = length-map ps f in
    let q : length (map f qs) ≡ length qs = length-map qs f in
    let m = ap length e in
    grind (arith, common_steps)

pub few_parts : {P A : Type 0} (f : P → A) (ps qs : List P) (at : ℕ) (g : Grown A) → at < length qs → map f ps ≡ take at (map f qs) ++ (parts_of g ++ drop (at + 1) (map f qs)) → length ps ≤ length qs + 1
few_parts f ps qs at g lt e = omega (arith, length_of_map f ps qs at g lt e, parts_few g)

pub some_parts : {P A : Type 0} (f : P → A) (ps qs : List P) (at : ℕ) (g : Grown A) → at < length qs → map f ps ≡ take at (map f qs) ++ (parts_of g ++ drop (at + 1) (map f qs)) → 0 < length ps
some_parts f ps qs at g lt e = omega (arith, length_of_map f ps qs at g lt e, parts_some g)

module _ {K X : Type 0} (R : K → K → Ordering) (o : IsTotalOrder R) (q : K) (ps : List (List (K × X))) (i : ℕ) (s : T (is_sorted R (joined ps))) (f : NoneEmpty ps) (h : IsPlace (cmp_first R q) ps i) where
  pub find_place : find R q (joined ps) ≡ find R q (get_or ps i [])
  find_place = ap (find R q) (joined_cut ps i h.within) ∙ find_around R q (joined (take i ps)) (get_or ps i []) (joined (drop (i + 1) ps)) (place_around R o q ps i s f h)

  pub put_place : (v : X) (gs qs : List (List (K × X))) → AreBlocks (put R q v (get_or ps i [])) gs → qs ≡ take i ps ++ (gs ++ drop (i + 1) ps) → AreBlocks (put R q v (joined ps)) qs
  put_place v gs qs g e = record {
    whole = rw (e, flat_map-append (λ b. b) (take i ps) (gs ++ drop (i + 1) ps), flat_map-append (λ b. b) gs (drop (i + 1) ps), g.whole)
        (sym (ap (put R q v) (joined_cut ps i h.within) ∙ put_around R q v (joined (take i ps)) (get_or ps i []) (joined (drop (i + 1) ps)) (place_around R o q ps i s f h)));
    full = rw e (NoneEmpty-append (take i ps) _ (full_take ps i f) (NoneEmpty-append gs _ g.full (full_drop ps (i + 1) f)));
  }

  sorted_at : T (is_sorted R (get_or ps i []))
  sorted_at = sorted_left R (get_or ps i []) (joined (drop (i + 1) ps)) (sorted_right R (joined (take i ps)) _ (subst (λ l. T (is_sorted R l)) (joined_cut ps i h.within) s))

  -- a part was changed in place
  pub put_alone : (v : X) (part : List (K × X)) → part ≡ put R q v (get_or ps i []) → AreBlocks (put R q v (joined ps)) (set ps i part)
  put_alone v part e = put_place v (part ∷ []) (set ps i part)
      (record { whole = append-nil part ∙ e; full = (rw e (put_some R o q v (get_or ps i []) sorted_at (full_at ps i f h.within)), tt) })
      (set_cut ps i part h.within)

-- what was tried at a part was tried at the whole
module _ {K X P : Type 0} (R : K → K → Ordering) (o : IsTotalOrder R) (q : K) (v : X) (f : P → List (K × X)) (ps : List P) (i : ℕ) (p r : P) (s : T (is_sorted R (joined (map f ps)))) (full : NoneEmpty (map f ps)) (h : IsPlace (cmp_first R q) (map f ps) i) (is : p ≡ get_or ps i p) where
  within_parts : i < length ps
  within_parts = rw length-map at h.within

  tried_option : (t : Tried K X) → MatchTried t (λ _. f r ≡ put R q v (f p)) (λ k w. (k ≡ q) × (w ≡ v) × (f r ≡ f p)) →
      MatchTried t (λ _. AreBlocks (put R q v (joined (map f ps))) (map f (set ps i r))) (λ k w. (k ≡ q) × (w ≡ v) × (map f (set ps i r) ≡ map f ps))
  tried_option (Put found) e = rw map-set (put_alone R o q (map f ps) i s full h v (f r) (e ∙ ap (put R q v) (sym (value_at f ps i p within_parts is))))
  tried_option (Full k w) e = (e.0, e.1, map-set_same f ps i r p (e.2 ∙ ap f is))

  pub found_here : (found : Bool) → found ≡ is_some (find R q (f p)) → found ≡ is_some (find R q (joined (map f ps)))
  found_here found e = e ∙ ap is_some (ap (find R q) (sym (value_at f ps i p within_parts is)) ∙ sym (find_place R o q (map f ps) i s full h))

  found_option : (t : Tried K X) → MatchTried t (λ found. found ≡ is_some (find R q (f p))) (λ _ _. Unit {0}) → MatchTried t (λ found. found ≡ is_some (find R q (joined (map f ps)))) (λ _ _. Unit {0})
  found_option (Put found) e = found_here found e
  found_option (Full k w) e = e

  pub found_alone : {E : Type 0} (t : Result (Tried K X) E) → IfOk t (λ u. MatchTried u (λ found. found ≡ is_some (find R q (f p))) (λ _ _. Unit {0})) →
      IfOk t (λ u. MatchTried u (λ found. found ≡ is_some (find R q (joined (map f ps)))) (λ _ _. Unit {0}))
  found_alone t e = IfOk-weaker t _ _ found_option e

  pub tried_alone : {E : Type 0} (t : Result (Tried K X) E) → IfOk t (λ u. MatchTried u (λ _. f r ≡ put R q v (f p)) (λ k w. (k ≡ q) × (w ≡ v) × (f r ≡ f p))) →
      IfOk t (λ u. MatchTried u (λ _. AreBlocks (put R q v (joined (map f ps))) (map f (set ps i r))) (λ k w. (k ≡ q) × (w ≡ v) × (map f (set ps i r) ≡ map f ps)))
  tried_alone t e = IfOk-weaker t _ _ tried_option e

module _ {K X E : Type 0} (R : K → K → Ordering) (o : IsTotalOrder R) (q : K) (v : X) where
  -- a leaf after an attempt to put an entry into it
  pub leaf_tried : (es fs : List (K × X)) (t : Result (Tried K X) E) → IsLeaf R es → length fs ≤ 64 →
      IfOk t (λ u. MatchTried u (λ _. fs ≡ put R q v es) (λ k w. (k ≡ q) × (w ≡ v) × (fs ≡ es))) → IfErr t (λ e. fs ≡ es) → IsLeaf R fs
  leaf_tried es fs (Ok (Put found)) l few e k = record { sorted = rw e (put_sorted R o q v es l.sorted); some = rw e (put_some R o q v es l.sorted l.some); few = few }
  leaf_tried es fs (Ok (Full k w)) l few e n = rw (e.2) l
  leaf_tried es fs (Err x) l few e k = rw k l

  -- a node after an attempt to put an entry into it
  pub node_tried : (ps qs : List (List (K × X))) (t : Result (Tried K X) E) → IsNode R ps → 0 < length qs → length qs ≤ 64 →
      IfOk t (λ u. MatchTried u (λ _. AreBlocks (put R q v (joined ps)) qs) (λ k w. (k ≡ q) × (w ≡ v) × (qs ≡ ps))) → IfErr t (λ e. qs ≡ ps) → IsNode R qs
  node_tried ps qs (Ok (Put found)) n some few e k = record { sorted = rw (e.whole) (put_sorted R o q v (joined ps) n.sorted); full = e.full; some = some; few = few }
  node_tried ps qs (Ok (Full k w)) n some few e m = rw (e.2) n
  node_tried ps qs (Err x) n some few e k = rw k n

-- what a part became stands in its place
pub one_in_place : {P A : Type 0} (f : P → A) (ps : List P) (at : ℕ) (a : P) (x : A) (g : Grown A) → at < length ps → g ≡ One x → f a ≡ x →
    map f (set ps at a) ≡ take at (map f ps) ++ (parts_of g ++ drop (at + 1) (map f ps))
one_in_place f ps at a x g lt e h = rw (e, map-set, h) (set_cut (map f ps) at x (rw length-map lt))

pub two_in_place : {P A : Type 0} (f : P → A) (ps qs : List P) (at : ℕ) (a b : P) (x y : A) (g : Grown A) → at < length ps → g ≡ Two x y → f a ≡ x → f b ≡ y →
    qs ≡ take (at + 1) ps ++ b ∷ drop (at + 1) ps → map f (set qs at a) ≡ take at (map f ps) ++ (parts_of g ++ drop (at + 1) (map f ps))
two_in_place f ps qs at a b x y g lt e h k is =
    rw (e, is, set_two ps at a b lt, map-append, ← h, ← k, take-map, drop-map) refl

module _ {K X : Type 0} (R : K → K → Ordering) where
  joined_halves : (ps : List (List (K × X))) (n : ℕ) → joined ps ≡ joined (take n ps) ++ joined (drop n ps)
  joined_halves ps n = ap joined (halves ps n) ∙ flat_map-append (λ b. b) (take n ps) (drop n ps)

  pub node_take : (ps : List (List (K × X))) (n : ℕ) → T (is_sorted R (joined ps)) → NoneEmpty ps → 64 < length ps → n ≤ 64 → 32 ≤ n → IsNode R (take n ps)
  node_take ps n s f l p q = record {
    sorted = sorted_left R (joined (take n ps)) (joined (drop n ps)) (subst (λ l. T (is_sorted R l)) (joined_halves ps n) s);
    full = full_take ps n f;
    some = grind (arith, common_steps);
    few = grind (arith, common_steps);
  }

  pub node_drop : (ps : List (List (K × X))) (n : ℕ) → T (is_sorted R (joined ps)) → NoneEmpty ps → 64 < length ps → length ps ≤ 65 → n ≤ 64 → 32 ≤ n → IsNode R (drop n ps)
  node_drop ps n s f l m p q = record {
    sorted = sorted_right R (joined (take n ps)) (joined (drop n ps)) (subst (λ l. T (is_sorted R l)) (joined_halves ps n) s);
    full = full_drop ps n f;
    some = grind (arith, common_steps);
    few = grind (arith, common_steps);
  }

  pub one_part : (ps : List (List (K × X))) → NoneEmpty ps → 0 < length ps → AreBlocks (joined ps) (joined ps ∷ [])
  one_part ps f l = record { whole = grind (arith, common_steps); full = (some_joined ps f l, tt) }

  pub two_parts : (ps : List (List (K × X))) (n : ℕ) → NoneEmpty ps → 64 < length ps → n ≤ 64 → 32 ≤ n → AreBlocks (joined ps) (joined (take n ps) ∷ joined (drop n ps) ∷ [])
  two_parts ps n f l p q = record {
    whole = grind (arith, common_steps, joined_halves ps n);
    full = (some_joined (take n ps) (full_take ps n f) (grind (arith, common_steps)), (some_joined (drop n ps) (full_drop ps n f) (grind (arith, common_steps)), tt));
  }

-- a map with one key changed
pub map_put : {K X : Type 0} (R : K → K → Ordering) (o : IsTotalOrder R) (q : K) (v : X) (ps qs : List (List (K × X))) (n m : ℕ) (found : Bool) →
    IsMap R ps n → AreBlocks (put R q v (joined ps)) qs → found ≡ is_some (find R q (joined ps)) → m ≡ cond found n (n + 1) → IsMap R qs m
map_put R o q v ps qs n m found i p f c = record {
  sorted = rw p.whole (put_sorted R o q v (joined ps) i.sorted);
  full = p.full;
  counted = rw (p.whole, length-put R o q v (joined ps) i.sorted, ← f, ← i.counted) c;
}

map_twice : {P Q E : Type 0} (f : Q → E) (g : P → Q) (ps : List P) → map f (map g ps) ≡ map (λ p. f (g p)) ps
map_twice f g [] = refl
map_twice f g (p ∷ ps) = ap (λ l. f (g p) ∷ l) (map_twice f g ps)

-- what is said of the values is said of what f makes of them
pub map_of_parts : {P Q E : Type 0} (f : Q → E) (g : P → Q) (ps : List P) (at : ℕ) (gs : List Q) (qs : List P) → map g qs ≡ take at (map g ps) ++ (gs ++ drop (at + 1) (map g ps)) →
    map (λ p. f (g p)) qs ≡ take at (map (λ p. f (g p)) ps) ++ (map f gs ++ drop (at + 1) (map (λ p. f (g p)) ps))
map_of_parts f g ps at gs qs e =
    sym (map_twice f g qs) ∙ ap (map f) e
    ∙ rw (map-append f (take at (map g ps)) (gs ++ drop (at + 1) (map g ps)), map-append f gs (drop (at + 1) (map g ps)), ← take-map f at (map g ps), ← drop-map f (at + 1) (map g ps), map_twice f g ps) refl

pub map_same : {A : Type 0} (xs : List A) → map (λ x. x) xs ≡ xs
map_same [] = refl
map_same (x ∷ xs) = ap (λ l. x ∷ l) (map_same xs)
