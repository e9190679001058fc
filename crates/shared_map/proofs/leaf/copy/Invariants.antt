use Rattle.std.proofs.Common.{◌≡◌, ◌++◌, take}
use Rattle.shared_map.proofs.leaf.copy.Given as goal

abbrev pub invariant-loop-key : goal.invariant-loop-key
invariant-loop-key g l = l.into.items ≡ l.fn.into.items ++ take l.key-index l.from
