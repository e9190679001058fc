-- What one node of a store means, and what a store keeps while it grows.
use Rattle.std.specs.Prelude.{◌≡◌, List, [], ◌∷◌, map, All}
use Rattle.ld_trees.specs.Term.{Term, Star, Square, Var, App, Lam, Pi, Const, Meta, Terms, none, ◌▹◌}
use Rattle.ld_terms.specs.declared.view.View.{View}
use Rattle.ld_terms.specs.declared.view.View.TheVariants as view

-- arguments of a list behind others, the first one first
abbrev pub terms_onto : Terms → List Term → Terms
terms_onto us [] = us
terms_onto us (x ∷ xs) = terms_onto (us ▹ x) xs

abbrev pub terms_of : List Term → Terms
terms_of xs = terms_onto none xs

-- the tree of a node, where each handle means a tree
abbrev pub node_tree : {H : Type 0} → (H → Term) → View H → Term
node_tree means view.Star = Star
node_tree means view.Square = Square
node_tree means (view.Var i) = Var i
node_tree means (view.App f a) = App (means f) (means a)
node_tree means (view.Lam A M) = Lam (means A) (means M)
node_tree means (view.Pi A B) = Pi (means A) (means B)
node_tree means (view.Const a us) = Const a.now (terms_of (map means us.now))
node_tree means (view.Meta m us) = Meta m (terms_of (map means us.now))

-- each handle in a node is one of the store
abbrev pub PartsIn : {H : Type 0} → (H → Type 0) → View H → Type 0
PartsIn holds view.Star = Unit {0}
PartsIn holds view.Square = Unit {0}
PartsIn holds (view.Var i) = Unit {0}
PartsIn holds (view.App f a) = holds f × holds a
PartsIn holds (view.Lam A M) = holds A × holds M
PartsIn holds (view.Pi A B) = holds A × holds B
PartsIn holds (view.Const a us) = All holds us.now
PartsIn holds (view.Meta m us) = All holds us.now

-- a handle of the store before is one of the store after, and means what it meant
abbrev pub Keeps : {H : Type 0} → (H → Type 0) → (H → Term) → (H → Type 0) → (H → Term) → Type 0
Keeps {H} holds means holds' means' = (h : H) → holds h → holds' h × (means' h ≡ means h)
