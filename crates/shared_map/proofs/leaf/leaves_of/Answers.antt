use Rattle.std.proofs.Common.{arith}
use Rattle.shared_map.proofs.Edits.{leaf_take, leaf_drop}
use Rattle.shared_map.proofs.leaf.leaves_of.Goals as goal

pub invariant_of-result-2 : goal.invariant_of-result-2
invariant_of-result-2 g c = rw c.in_ok-rest.ensures.items (leaf_take g.K.Ord.cmp c.args.entries.items c.args.cut c.requires.sorted (omega arith) (omega arith) (omega arith))

pub invariant_of-result-3 : goal.invariant_of-result-3
invariant_of-result-3 g c = rw c.in_ok-rest.ensures.tail (leaf_drop g.K.Ord.cmp c.args.entries.items c.args.cut c.requires.sorted (omega arith) (omega arith) (omega arith) (omega arith))
