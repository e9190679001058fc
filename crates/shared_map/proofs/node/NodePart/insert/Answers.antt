use Rattle.std.proofs.Common.{map}
use Rattle.std.proofs.lemmas.List.{length-map}
use Rattle.std.specs.Arc.{arc_value}
use Rattle.shared_map.proofs.Parts.{node_tried}
use Rattle.shared_map.proofs.node.NodePart.insert.Goals as goal

pub invariant_of-self : goal.invariant_of-self
invariant_of-self g c =
    node_tried g.K.Ord.cmp g.met.K.Ord.total c.args.key c.args.value (map arc_value c.self.inside.leaves.items) (map arc_value c.insert_in.new.leaves.items) c.insert_in.result c.self.invariant
    (rw length-map c.insert_in.ensures.some) (rw length-map c.insert_in.ensures.few) c.insert_in.ensures.tried c.insert_in.ensures.kept
