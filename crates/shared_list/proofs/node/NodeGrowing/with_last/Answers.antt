use Rattle.std.proofs.Common.{map, arith}
use Rattle.std.specs.Arc.{arc_value}
use Rattle.shared_list.proofs.Cut.{filled_to, enough_to, put_to}
use Rattle.shared_list.proofs.node.NodeGrowing.with_last.Goals as goal

pub put_in-requires-clause-filled : goal.put_in-requires-clause-filled
put_in-requires-clause-filled g c =
    rw (c.in_ok-leaves.ensures, c.deref.ensures.value) (filled_to 64 c.args.at (map arc_value c.self.inside.leaves.items) (omega arith) c.self.invariant)

pub put_in-requires-clause-within : goal.put_in-requires-clause-within
put_in-requires-clause-within g c =
    rw (c.in_ok-leaves.ensures, c.deref.ensures.value) (enough_to 64 c.args.at (map arc_value c.self.inside.leaves.items) (omega arith) c.self.invariant (rw c.self.view_is c.requires.within))

pub returns : goal.returns
returns g c =
    rw (← c.self.view_is)
    (put_to 64 c.args.at (map arc_value c.self.inside.leaves.items) (omega arith) c.self.invariant c.args.item _
    (rw (c.in_ok-leaves.ensures, c.deref.ensures.value) at c.in_ok-put_in.ensures.put))
