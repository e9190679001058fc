use Rattle.std.proofs.Common.{map}
use Rattle.std.specs.Arc.{arc_value}
use Rattle.shared_map.specs.Blocks.{joined}
use Rattle.shared_map.specs.Top.{nodes_in}
use Rattle.shared_map.proofs.Edits.{found_at_key, found_elsewhere, put_in_order}
use Rattle.shared_map.proofs.Parts.{map_put}
use Rattle.shared_map.proofs.map.SharedMap.with.Goals as goal

pub invariant_of-result : goal.invariant_of-result
invariant_of-result g c =
    map_put g.K.Ord.cmp g.met.K.Ord.total c.args.key c.args.value (map arc_value (nodes_in c.self.inside.nodes)) (map arc_value c.in_ok-nodes.nodes.items) c.self.inside.count c.in_ok-count.count c.in_ok-nodes.found
    c.self.invariant (rw c.nodes_of.ensures at c.in_ok-nodes.ensures.changed) (rw c.nodes_of.ensures at c.in_ok-nodes.ensures.found) c.in_ok-count.ensures

pub returns-clause-at_key : goal.returns-clause-at_key
returns-clause-at_key g c =
    rw (c.in_ok-nodes.ensures.changed.whole, c.nodes_of.ensures, c.self.view_is) (found_at_key g.K.Ord.cmp g.met.K.Ord.total c.args.key c.args.value c.args.self.now)

pub returns-clause-elsewhere : goal.returns-clause-elsewhere
returns-clause-elsewhere g c = λ q n.
    rw (c.in_ok-nodes.ensures.changed.whole, c.nodes_of.ensures, c.self.view_is) (found_elsewhere g.K.Ord.cmp g.met.K.Ord.total q c.args.key c.args.value c.args.self.now n)

pub returns-clause-in_order : goal.returns-clause-in_order
returns-clause-in_order g c =
    rw (c.in_ok-nodes.ensures.changed.whole, c.nodes_of.ensures)
    (put_in_order g.K.Ord.cmp g.met.K.Ord.total c.args.key c.args.value (joined (map arc_value (nodes_in c.self.inside.nodes))) c.self.invariant.sorted)
