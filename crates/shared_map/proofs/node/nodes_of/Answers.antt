use Rattle.std.proofs.Common.{map, arith, length, ◌≡◌}
use Rattle.std.proofs.lemmas.List.{length-map}
use Rattle.std.specs.List.{take-map, drop-map}
use Rattle.std.specs.Arc.{arc_value}
use Rattle.shared_map.proofs.Parts.{node_take, node_drop, two_parts, one_part}
use Rattle.shared_map.proofs.node.nodes_of.Goals as goal

pub returns-then-len-le-MOST : goal.returns-then-len-le-MOST
returns-then-len-le-MOST g c = one_part g.K.Ord.cmp (map arc_value c.args.leaves.items) c.requires.full (rw length-map c.requires.some)

pub invariant_of-result-2 : goal.invariant_of-result-2
invariant_of-result-2 g c =
    let n : length (map arc_value c.args.leaves.items) ≡ length c.args.leaves.items = length-map c.args.leaves.items arc_value in
    rw (c.in_ok-rest.ensures.items, ← take-map arc_value c.args.cut c.args.leaves.items)
    (node_take g.K.Ord.cmp (map arc_value c.args.leaves.items) c.args.cut c.requires.sorted c.requires.full (omega arith) (omega arith) (omega arith))

pub invariant_of-result-3 : goal.invariant_of-result-3
invariant_of-result-3 g c =
    let n : length (map arc_value c.args.leaves.items) ≡ length c.args.leaves.items = length-map c.args.leaves.items arc_value in
    rw (c.in_ok-rest.ensures.tail, ← drop-map arc_value c.args.cut c.args.leaves.items)
    (node_drop g.K.Ord.cmp (map arc_value c.args.leaves.items) c.args.cut c.requires.sorted c.requires.full (omega arith) (omega arith) (omega arith) (omega arith))

pub returns : goal.returns
returns g c =
    let n : length (map arc_value c.args.leaves.items) ≡ length c.args.leaves.items = length-map c.args.leaves.items arc_value in
    rw (c.in_ok-rest.ensures.items, c.in_ok-rest.ensures.tail, ← take-map arc_value c.args.cut c.args.leaves.items, ← drop-map arc_value c.args.cut c.args.leaves.items)
    (two_parts g.K.Ord.cmp (map arc_value c.args.leaves.items) c.args.cut c.requires.full (omega arith) (omega arith) (omega arith))
