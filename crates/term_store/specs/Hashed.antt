-- A store whose nodes stand once each: a map that has the place of each node, and a list that has the entry at each place.
use Rattle.std.specs.Prelude.{◌≡◌, ℕ, ◌<◌, ◌≤◌, List, take, length, Some, slice_index_or}
use Rattle.std.specs.FinMap.{find}
use Rattle.std.specs.declared.cmp.Ordering.{Ordering}
use Rattle.ld_trees.specs.Term.{Term, Star}
use Rattle.ld_terms.specs.Sizes.{IsSize}
use Rattle.ld_terms.specs.Entries.{nodes_in, AreEntries}
use Rattle.ld_terms.specs.declared.node.Node.{Node}
use Rattle.ld_terms.specs.declared.node.Place.{Place}
use Rattle.ld_terms.specs.declared.size.Size.{Size}
use Rattle.ld_terms.specs.declared.tree_terms.Entry.{Entry}

-- a node with the size of its tree
abbrev pub entry_of : Node → Size → Entry
entry_of n z = record { node = n; size = z }

-- The rows that count: as many as there are nodes with a place. A row behind them is left over from a call that failed.
abbrev pub entries_of : List (Node × Place) → List Entry → List Entry
entries_of ids rows = take (length ids) rows

-- the nodes of a store, in the order of their places
abbrev pub nodes_of : List (Node × Place) → List Entry → List Node
nodes_of ids rows = nodes_in (entries_of ids rows)

-- each node is found with its place, and nothing else is found
pub record AreKnown (R : Node → Node → Ordering) (ids : List (Node × Place)) (ns : List Node) : Type 0 where
  pub known : (i : ℕ) (d : Node) → i < length ns → find R (slice_index_or ns i d) ids ≡ Some (record { 0 = i })
  pub once : (n d : Node) (p : Place) → find R n ids ≡ Some p → (p.0 < length ns) × (slice_index_or ns p.0 d ≡ n)

-- each row below place k has the size of the tree there
pub record AreSizesBelow (k : ℕ) (ts : List Term) (rows : List Entry) : Type 0 where
  pub each : (i : ℕ) (d : Entry) → i < k → IsSize (slice_index_or ts i Star) (slice_index_or rows i d).size

-- the map and the rows of a store
pub record IsHashed (R : Node → Node → Ordering) (ids : List (Node × Place)) (rows : List Entry) : Type 0 where
  pub enough : length ids ≤ length rows
  pub entries : AreEntries (entries_of ids rows)
  pub places : AreKnown R ids (nodes_of ids rows)
