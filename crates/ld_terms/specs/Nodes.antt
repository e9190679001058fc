-- A list of nodes as a store of terms: each node stands after its parts, and a place in the list means a tree.
use Rattle.std.specs.Prelude.{ℕ, ◌<◌, ◌+◌, List, [], ◌∷◌, ◌++◌, map, All, length, slice_index_or}
use Rattle.ld_trees.specs.Term.{Term, Star, Square, Var, App, Lam, Pi, Const, Meta}
use Rattle.ld_terms.specs.Views.{terms_of}
use Rattle.ld_terms.specs.declared.node.Node.{Node}
use Rattle.ld_terms.specs.declared.node.Node.TheVariants as node
use Rattle.ld_terms.specs.declared.node.Place.{Place}

-- the tree at a place of a list
abbrev pub tree_at : List Term → Place → Term
tree_at ts p = slice_index_or ts p.0 Star

-- the tree of a node, whose parts' trees stand in a list
abbrev pub tree_over : List Term → Node → Term
tree_over ts node.Star = Star
tree_over ts node.Square = Square
tree_over ts (node.Var i) = Var i
tree_over ts (node.App f a) = App (tree_at ts f) (tree_at ts a)
tree_over ts (node.Lam A M) = Lam (tree_at ts A) (tree_at ts M)
tree_over ts (node.Pi A B) = Pi (tree_at ts A) (tree_at ts B)
tree_over ts (node.Const c us) = Const c (terms_of (map (tree_at ts) us))
tree_over ts (node.Meta m us) = Meta m (terms_of (map (tree_at ts) us))

-- trees, and behind them those of further nodes
abbrev pub trees_after : List Term → List Node → List Term
trees_after ts [] = ts
trees_after ts (n ∷ ns) = trees_after (ts ++ tree_over ts n ∷ []) ns

-- the trees of nodes, in order
abbrev pub trees_of : List Node → List Term
trees_of ns = trees_after [] ns

-- a node's parts stand below a place
abbrev pub IsBelow : ℕ → Node → Type 0
IsBelow k node.Star = Unit {0}
IsBelow k node.Square = Unit {0}
IsBelow k (node.Var i) = Unit {0}
IsBelow k (node.App f a) = (f.0 < k) × (a.0 < k)
IsBelow k (node.Lam A M) = (A.0 < k) × (M.0 < k)
IsBelow k (node.Pi A B) = (A.0 < k) × (B.0 < k)
IsBelow k (node.Const c us) = All (λ p. p.0 < k) us
IsBelow k (node.Meta m us) = All (λ p. p.0 < k) us

-- each node stands after its parts, where the first node stands at place k
abbrev pub AreOrdered : ℕ → List Node → Type 0
AreOrdered k [] = Unit {0}
AreOrdered k (n ∷ ns) = IsBelow k n × AreOrdered (k + 1) ns

-- the places of a list of nodes
unfoldable pub IsPlace : List Node → Place → Type 0
IsPlace ns p = p.0 < length ns

-- the tree that a place means
unfoldable pub tree_of_place : List Node → Place → Term
tree_of_place ns p = tree_at (trees_of ns) p
