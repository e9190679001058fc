use Rattle.shared_map.proofs.Parts.{leaf_tried}
use Rattle.shared_map.proofs.leaf.LeafPart.insert.Goals as goal

pub invariant_of-self : goal.invariant_of-self
invariant_of-self g c =
    leaf_tried g.K.Ord.cmp g.met.K.Ord.total c.args.key c.args.value c.self.inside.entries.items c.insert_in.new.entries.items c.insert_in.result c.self.invariant c.insert_in.ensures.few
    c.insert_in.ensures.tried c.insert_in.ensures.kept
