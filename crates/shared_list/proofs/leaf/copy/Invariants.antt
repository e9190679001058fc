use Rattle.std.proofs.Common.{◌≡◌, ◌++◌, take}
use Rattle.shared_list.proofs.leaf.copy.Given as goal

abbrev pub invariant-loop-item : goal.invariant-loop-item
invariant-loop-item g l = l.into.items ≡ l.fn.into.items ++ take l.item-index l.from
