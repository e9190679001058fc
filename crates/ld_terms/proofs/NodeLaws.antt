-- A list of nodes and their trees.
use Rattle.std.proofs.Common.{◌≡◌, ℕ, ◌+◌, ◌<◌, ◌≤◌, List, [], ◌∷◌, ◌++◌, length, refl, ap, sym, ◌∙◌, arith, get_or, map, All, suc, zero, length-append}
use Rattle.std.proofs.lemmas.Grind.{common_steps}
use Rattle.ld_trees.specs.Term as tree
use Rattle.ld_trees.specs.Term.{Term}
use Rattle.ld_terms.specs.Nodes.{tree_at, tree_over, trees_after, trees_of, IsBelow, AreOrdered, IsPlace, tree_of_place}
use Rattle.ld_terms.specs.Views.{Keeps, terms_of}
use Rattle.ld_terms.specs.declared.node.Node.{Node}
use Rattle.ld_terms.specs.declared.node.Node.TheVariants.{Star, Square, Var, App, Lam, Pi, Const, Meta}
use Rattle.ld_terms.specs.declared.node.Place.{Place}

pub trees_after-push : (ts : List Term) (ns : List Node) (n : Node) → trees_after ts (ns ++ n ∷ []) ≡ trees_after ts ns ++ tree_over (trees_after ts ns) n ∷ []
trees_after-push ts [] n = refl
trees_after-push ts (m ∷ ns) n = trees_after-push (ts ++ tree_over ts m ∷ []) ns n

pub length-trees_after : (ts : List Term) (ns : List Node) → length (trees_after ts ns) ≡ length ts + length ns
length-trees_after ts [] = omega arith
length-trees_after ts (m ∷ ns) = omega (arith, length-trees_after (ts ++ tree_over ts m ∷ []) ns, length-append ts (tree_over ts m ∷ []))

add_zero_of : (k : ℕ) → k + 0 ≡ k
add_zero_of k = omega arith

regroup : (k n : ℕ) → k + suc n ≡ k + 1 + n
regroup k n = omega arith

pub AreAreOrdered-push : (k : ℕ) (ns : List Node) (n : Node) → AreOrdered k ns → IsBelow (k + length ns) n → AreOrdered k (ns ++ n ∷ [])
AreAreOrdered-push k [] n o b = (rw (add_zero_of k) at b, tt)
AreAreOrdered-push k (m ∷ ns) n o b = (o.0, AreAreOrdered-push (k + 1) ns n o.1 (rw (regroup k (length ns)) at b))

-- two lists of trees that agree below k
record Agree (k : ℕ) (ts us : List Term) : Type 0 where
  at : (i : ℕ) → i < k → get_or us i tree.Star ≡ get_or ts i tree.Star

map_agree : (k : ℕ) (ts us : List Term) → Agree k ts us → (ps : List Place) → All (λ p. p.0 < k) ps → map (tree_at us) ps ≡ map (tree_at ts) ps
map_agree k ts us a [] b = refl
map_agree k ts us a (p ∷ ps) b =
    let here = a.at p.0 (b 0 p (omega arith)) in
    let rest = map_agree k ts us a ps (λ j d lt. b (suc j) d (omega arith)) in
    cc

tree_over_agree : (k : ℕ) (ts us : List Term) → Agree k ts us → (n : Node) → IsBelow k n → tree_over us n ≡ tree_over ts n
tree_over_agree k ts us a Star b = refl
tree_over_agree k ts us a Square b = refl
tree_over_agree k ts us a (Var i) b = refl
tree_over_agree k ts us a (App f u) b = let p = a.at f.0 b.0 in let q = a.at u.0 b.1 in cc
tree_over_agree k ts us a (Lam f u) b = let p = a.at f.0 b.0 in let q = a.at u.0 b.1 in cc
tree_over_agree k ts us a (Pi f u) b = let p = a.at f.0 b.0 in let q = a.at u.0 b.1 in cc
tree_over_agree k ts us a (Const c ps) b = ap (λ l. tree.Const c (terms_of l)) (map_agree k ts us a ps b)
tree_over_agree k ts us a (Meta m ps) b = ap (λ l. tree.Meta m (terms_of l)) (map_agree k ts us a ps b)

get_or-front : (ts : List Term) (t : Term) (i : ℕ) → i < length ts → get_or (ts ++ t ∷ []) i tree.Star ≡ get_or ts i tree.Star
get_or-front ts t i lt = grind (arith, common_steps)

get_or-last : (ts : List Term) (t : Term) → get_or (ts ++ t ∷ []) (length ts) tree.Star ≡ t
get_or-last ts t = grind (arith, common_steps)

-- later nodes change no tree made before
before : (ts : List Term) (ns : List Node) (i : ℕ) → i < length ts → get_or (trees_after ts ns) i tree.Star ≡ get_or ts i tree.Star
before ts [] i lt = refl
before ts (n ∷ ns) i lt =
    before (ts ++ tree_over ts n ∷ []) ns i (omega (arith, length-append ts (tree_over ts n ∷ []))) ∙ get_or-front ts (tree_over ts n) i lt

-- the tree at a place is its node's
pub tree_over_node : (ts : List Term) (ns : List Node) (i : ℕ) (d : Node) → AreOrdered (length ts) ns → i < length ns →
    tree_over (trees_after ts ns) (get_or ns i d) ≡ get_or (trees_after ts ns) (length ts + i) tree.Star
tree_over_node ts [] i d o lt = absurd (omega arith)
tree_over_node ts (n ∷ ns) zero d o lt =
    let ts' : List Term = ts ++ tree_over ts n ∷ [] in
    tree_over_agree (length ts) ts (trees_after ts' ns) (record { at = λ j h. before ts' ns j (omega (arith, length-append ts (tree_over ts n ∷ []))) ∙ get_or-front ts (tree_over ts n) j h }) n o.0
    ∙ sym (ap (λ j. get_or (trees_after ts' ns) j tree.Star) (omega arith) ∙ before ts' ns (length ts) (omega (arith, length-append ts (tree_over ts n ∷ []))) ∙ get_or-last ts (tree_over ts n))
tree_over_node ts (n ∷ ns) (suc i) d o lt =
    let ts' : List Term = ts ++ tree_over ts n ∷ [] in
    let e : length ts' ≡ length ts + 1 = length-append ts (tree_over ts n ∷ []) in
    tree_over_node ts' ns i d (rw e o.1) (omega arith) ∙ ap (λ j. get_or (trees_after ts' ns) j tree.Star) (omega arith)

-- a further node
pub keeps_push : (ns : List Node) (n : Node) → Keeps (IsPlace ns) (tree_of_place ns) (IsPlace (ns ++ n ∷ [])) (tree_of_place (ns ++ n ∷ []))
unfolding IsPlace tree_of_place
keeps_push ns n p h = (
  omega (arith, length-append ns (n ∷ [])),
  rw (trees_after-push [] ns n) (get_or-front (trees_of ns) (tree_over (trees_of ns) n) p.0 (omega (arith, length-trees_after [] ns))),
)

pub tree_push : (ns : List Node) (n : Node) (k : ℕ) → k ≡ length ns → get_or (trees_of (ns ++ n ∷ [])) k tree.Star ≡ tree_over (trees_of ns) n
unfolding IsPlace tree_of_place
tree_push ns n k e =
    rw (trees_after-push [] ns n)
    (ap (λ j. get_or (trees_of ns ++ tree_over (trees_of ns) n ∷ []) j tree.Star) (let h : length (trees_of ns) ≡ 0 + length ns = length-trees_after [] ns in omega arith)
    ∙ get_or-last (trees_of ns) (tree_over (trees_of ns) n))

IsBelow-weaker : (k m : ℕ) → k ≤ m → (n : Node) → IsBelow k n → IsBelow m n
IsBelow-weaker k m le Star b = tt
IsBelow-weaker k m le Square b = tt
IsBelow-weaker k m le (Var i) b = tt
IsBelow-weaker k m le (App f u) b = (omega arith, omega arith)
IsBelow-weaker k m le (Lam f u) b = (omega arith, omega arith)
IsBelow-weaker k m le (Pi f u) b = (omega arith, omega arith)
IsBelow-weaker k m le (Const c ps) b = λ j d lt. omega (arith, b j d lt)
IsBelow-weaker k m le (Meta c ps) b = λ j d lt. omega (arith, b j d lt)

-- a node's children stand below it, so below the end
pub below_of_node : (k : ℕ) (ns : List Node) (i : ℕ) (d : Node) → AreOrdered k ns → i < length ns → IsBelow (k + i) (get_or ns i d)
below_of_node k [] i d o lt = absurd (omega arith)
below_of_node k (n ∷ ns) zero d o lt = IsBelow-weaker k (k + 0) (omega arith) n o.0
below_of_node k (n ∷ ns) (suc i) d o lt = rw (← regroup k i) at (below_of_node (k + 1) ns i d o.1 (omega arith))

pub below_end : (ns : List Node) (i : ℕ) (d : Node) → AreOrdered 0 ns → i < length ns → IsBelow (length ns) (get_or ns i d)
below_end ns i d o lt = IsBelow-weaker (0 + i) (length ns) (omega arith) (get_or ns i d) (below_of_node 0 ns i d o lt)

pub push_end : (ns : List Node) (n : Node) → AreOrdered 0 ns → IsBelow (length ns) n → AreOrdered 0 (ns ++ n ∷ [])
push_end ns n o b = AreAreOrdered-push 0 ns n o (IsBelow-weaker (length ns) (0 + length ns) (omega arith) n b)

-- what node reads
pub node_at : (ns : List Node) (p : Place) (n : Node) → AreOrdered 0 ns → p.0 < length ns → n ≡ get_or ns p.0 n →
    (tree_over (trees_of ns) n ≡ tree_of_place ns p) × IsBelow (length ns) n
unfolding IsPlace tree_of_place
node_at ns p n o lt e = (
  ap (tree_over (trees_of ns)) e ∙ tree_over_node [] ns p.0 n o lt ∙ ap (λ j. get_or (trees_of ns) j tree.Star) (omega arith),
  rw e (below_end ns p.0 n o lt),
)
