-- The highest level of a map.
use Rattle.std.specs.Prelude.{List, [], Option, None, Some}
use Rattle.std.specs.Global.{Vec}

-- the list of nodes, which a map that never had an entry leaves out
abbrev pub nodes_in : {N : Type 0} → Option (Vec N) → List N
nodes_in None = []
nodes_in (Some v) = v.items
