-- The highest level of a list.
use Rattle.std.specs.Prelude.{◌≡◌, ℕ, List, [], length, Option, None, Some}
use Rattle.std.specs.Global.{Vec}
use Rattle.shared_list.specs.Blocks.{joined, IsFilled}

-- the list of nodes, which a list that never had an item leaves out
abbrev pub nodes_in : {N : Type 0} → Option (Vec N) → List N
nodes_in None = []
nodes_in (Some v) = v.items

-- each node but the last has 64 leaves of 64 items, and `count` is the number of all items
pub record IsList {A : Type 0} (nodes : List (List A)) (count : ℕ) : Type 0 where
  pub filled : IsFilled 4096 nodes
  pub counted : count ≡ length (joined nodes)
