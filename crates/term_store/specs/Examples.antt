-- Stores to be computed: what is looked up before a node is put into a store, and what its places mean.
use Rattle.std.specs.Prelude.{◌≡◌, ℕ, List, [], ◌∷◌, Some, None}
use Rattle.std.specs.FinMap.{find, put}
use Rattle.ld_trees.specs.Term as tree
use Rattle.ld_trees.specs.Term.{nodes, depth, none, ◌▹◌}
use Rattle.ld_trees.specs.Substitution.{shift, subst_all}
use Rattle.ld_terms.specs.Nodes.{trees_of, tree_at}
use Rattle.ld_terms.specs.declared.node.Node.{Node}
use Rattle.ld_terms.specs.declared.node.Node.TheVariants.{Star, Square, Var, App, Pi}
use Rattle.ld_terms.specs.declared.node.Place.{Place}
use Rattle.ld_terms.specs.contracts.node.NodeOrd.TheImpl.{ghosts}

abbrev at : ℕ → Place
at i = record { 0 = i }

-- the places of `*`, `Var 0` and the product of the two
abbrev ids : List (Node × Place)
ids = put ghosts.cmp (Pi (at 0) (at 1)) (at 2) (put ghosts.cmp (Var 0) (at 1) (put ghosts.cmp Star (at 0) []))

abbrev ns : List Node
ns = Star ∷ Var 0 ∷ Pi (at 0) (at 1) ∷ []

pub record ExampleOfAProduct : Type 0 where
  -- made a second time it is found at its place, and another product isn't found
  pub again : find ghosts.cmp (Pi (at 0) (at 1)) ids ≡ Some (at 2)
  pub other : find ghosts.cmp (Pi (at 1) (at 0)) ids ≡ None
  pub nodes_are : nodes (tree_at (trees_of ns) (at 2)) ≡ 3
  pub depth_is : depth (tree_at (trees_of ns) (at 2)) ≡ 2

-- the last two variables applied to each other, and what stands for them
abbrev ms : List Node
ms = Var 1 ∷ Var 0 ∷ App (at 0) (at 1) ∷ Star ∷ Square ∷ App (at 3) (at 4) ∷ []

pub record ExampleOfASubstitution : Type 0 where
  pub replaced : subst_all (none ▹ tree_at (trees_of ms) (at 3) ▹ tree_at (trees_of ms) (at 4)) (tree_at (trees_of ms) (at 2)) ≡ tree_at (trees_of ms) (at 5)
  pub shifted : shift 0 2 (tree_at (trees_of ms) (at 1)) ≡ tree.Var 2
