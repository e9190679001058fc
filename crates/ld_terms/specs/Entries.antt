-- Nodes with the sizes of their trees.
use Rattle.std.specs.Prelude.{ℕ, ◌<◌, List, length, map, slice_index_or}
use Rattle.ld_trees.specs.Term.{Term, Star}
use Rattle.ld_terms.specs.Nodes.{AreOrdered, trees_of}
use Rattle.ld_terms.specs.Sizes.{IsSize}
use Rattle.ld_terms.specs.declared.node.Node.{Node}
use Rattle.ld_terms.specs.declared.tree_terms.Entry.{Entry}

abbrev pub nodes_in : List Entry → List Node
nodes_in es = map (λ e. e.node) es

-- each entry has the size of the tree at its place
pub record AreSizes (ts : List Term) (es : List Entry) : Type 0 where
  pub each : (i : ℕ) (d : Entry) → i < length es → IsSize (slice_index_or ts i Star) (slice_index_or es i d).size

-- the entries of a store
pub record AreEntries (es : List Entry) : Type 0 where
  pub ordered : AreOrdered 0 (nodes_in es)
  pub sizes : AreSizes (trees_of (nodes_in es)) es
