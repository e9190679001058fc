-- Where each node stands once, each tree has one place.
use Rattle.std.proofs.Common.{◌≡◌, ℕ, ◌+◌, ◌<◌, ◌≤◌, List, [], ◌∷◌, length, refl, ap, sym, ◌∙◌, arith, get_or, map, All, zero, suc}
use Rattle.std.proofs.lemmas.Grind.{common_steps}
use Rattle.ld_trees.specs.Term.{Term}
use Rattle.ld_terms.specs.Views.{terms_of}
use Rattle.ld_terms.proofs.Arguments.{terms_of_same}
use Rattle.ld_terms.specs.Nodes.{tree_at, tree_over, trees_of, IsBelow, AreOrdered, IsPlace, tree_of_place}
use Rattle.ld_terms.specs.declared.node.Node.{Node}
use Rattle.ld_terms.specs.declared.node.Node.TheVariants.{Star, Square, Var, App, Lam, Pi, Const, Meta}
use Rattle.ld_terms.specs.declared.node.Place.{Place}
use Rattle.ld_terms.proofs.NodeLaws.{node_at, below_of_node}

-- places below k and l that mean one tree are one
abbrev pub OnePlace : ℕ → ℕ → List Term → Type 0
OnePlace k l ts = (x y : Place) → x.0 < k → y.0 < l → tree_at ts x ≡ tree_at ts y → x ≡ y

same_args : (ts : List Term) (k l : ℕ) → OnePlace k l ts → (us vs : List Place) → All (λ p. p.0 < k) us → All (λ p. p.0 < l) vs → map (tree_at ts) us ≡ map (tree_at ts) vs → us ≡ vs
same_args ts k l h [] [] a b e = refl
same_args ts k l h [] (v ∷ vs) a b e = absurd (cc)
same_args ts k l h (u ∷ us) [] a b e = absurd (cc)
same_args ts k l h (u ∷ us) (v ∷ vs) a b e =
    let p : tree_at ts u ≡ tree_at ts v = cc in
    let q : map (tree_at ts) us ≡ map (tree_at ts) vs = cc in
    let r : u ≡ v = h u v (a 0 u (omega arith)) (b 0 v (omega arith)) p in
    let s : us ≡ vs = same_args ts k l h us vs (λ j d lt. a (suc j) d (omega arith)) (λ j d lt. b (suc j) d (omega arith)) q in
    cc

same_node : (ts : List Term) (k l : ℕ) → OnePlace k l ts → (n m : Node) → IsBelow k n → IsBelow l m → tree_over ts n ≡ tree_over ts m → n ≡ m
same_node ts k l h Star Star b c e = refl
same_node ts k l h Square Square b c e = refl
same_node ts k l h (Var i) (Var j) b c e = let p : i ≡ j = cc in cc
same_node ts k l h (App f a) (App g u) b c e =
    let p : tree_at ts f ≡ tree_at ts g = cc in
    let q : tree_at ts a ≡ tree_at ts u = cc in
    let r = h f g b.0 c.0 p in
    let s = h a u b.1 c.1 q in
    cc
same_node ts k l h (Lam f a) (Lam g u) b c e =
    let p : tree_at ts f ≡ tree_at ts g = cc in
    let q : tree_at ts a ≡ tree_at ts u = cc in
    let r = h f g b.0 c.0 p in
    let s = h a u b.1 c.1 q in
    cc
same_node ts k l h (Pi f a) (Pi g u) b c e =
    let p : tree_at ts f ≡ tree_at ts g = cc in
    let q : tree_at ts a ≡ tree_at ts u = cc in
    let r = h f g b.0 c.0 p in
    let s = h a u b.1 c.1 q in
    cc
same_node ts k l h (Const n us) (Const m vs) b c e =
    let p : n ≡ m = cc in
    let q : terms_of (map (tree_at ts) us) ≡ terms_of (map (tree_at ts) vs) = cc in
    let r = same_args ts k l h us vs b c (terms_of_same _ _ q) in
    cc
same_node ts k l h (Meta n us) (Meta m vs) b c e =
    let p : n ≡ m = cc in
    let q : terms_of (map (tree_at ts) us) ≡ terms_of (map (tree_at ts) vs) = cc in
    let r = same_args ts k l h us vs b c (terms_of_same _ _ q) in
    cc
same_node ts k l h n m b c e = absurd (cc)

-- each node stands once
pub record IsOnce (ns : List Node) : Type 0 where
  pub at : (i j : ℕ) (d : Node) → i < length ns → j < length ns → get_or ns i d ≡ get_or ns j d → i ≡ j

pub place_same : (p q : Place) → p.0 ≡ q.0 → p ≡ q
place_same p q e = ap (λ (n : ℕ). let r : Place = record { 0 = n } in r) e

here : (ns : List Node) (i : ℕ) → i < length ns → get_or ns i Star ≡ get_or ns i (get_or ns i Star)
here ns i lt = grind (arith, common_steps)

pub tree_here : (ns : List Node) (x : Place) → AreOrdered 0 ns → x.0 < length ns → (tree_over (trees_of ns) (get_or ns x.0 Star) ≡ tree_at (trees_of ns) x) × IsBelow (length ns) (get_or ns x.0 Star)
unfolding IsPlace tree_of_place
tree_here ns x o lt = node_at ns x (get_or ns x.0 Star) o lt (here ns x.0 lt)

one_place : (ns : List Node) → AreOrdered 0 ns → IsOnce ns → (k : ℕ) → k ≤ length ns → OnePlace k (length ns) (trees_of ns)
one_place ns o u zero le x y a b e = absurd (omega arith)
one_place ns o u (suc k) le x y a b e =
    let lower : OnePlace (0 + x.0) (length ns) (trees_of ns) = λ v w c d f. one_place ns o u k (omega arith) v w (omega arith) d f in
    let p = tree_here ns x o (omega arith) in
    let q = tree_here ns y o b in
    let s : get_or ns x.0 Star ≡ get_or ns y.0 Star =
    same_node (trees_of ns) (0 + x.0) (length ns) lower (get_or ns x.0 Star) (get_or ns y.0 Star) (below_of_node 0 ns x.0 Star o (omega arith)) q.1 (p.0 ∙ e ∙ sym q.0) in
    place_same x y (u.at x.0 y.0 Star (omega arith) b s)

-- equal trees have equal places
pub same_places : (ns : List Node) → AreOrdered 0 ns → IsOnce ns → (x y : Place) → IsPlace ns x → IsPlace ns y → tree_of_place ns x ≡ tree_of_place ns y → x ≡ y
unfolding IsPlace tree_of_place
same_places ns o u x y a b e = one_place ns o u (length ns) (omega arith) x y a b e
