use Rattle.std.proofs.Common.{map, ◌≡◌, refl}
use Rattle.std.specs.Arc.{arc_value}
use Rattle.std.specs.FinMap.{put}
use Rattle.shared_map.specs.Blocks.{joined}
use Rattle.shared_map.specs.Grown.{parts_of}
use Rattle.shared_map.proofs.Edits.{put_sorted}
use Rattle.shared_map.proofs.Parts.{map_same}
use Rattle.shared_map.proofs.node.NodePart.with.Goals as goal

pub nodes_of-requires-clause-sorted : goal.nodes_of-requires-clause-sorted
nodes_of-requires-clause-sorted g c =
    rw (c.in_ok-leaves.ensures.parts.whole, c.deref-3.ensures.value)
    (put_sorted g.K.Ord.cmp g.met.K.Ord.total c.args.key c.args.value (joined (map arc_value c.self.inside.leaves.items)) c.self.invariant.sorted)

pub returns-clause-parts : goal.returns-clause-parts
returns-clause-parts g c =
    let whole : joined (map arc_value c.in_ok-leaves.leaves.items) ≡ put g.K.Ord.cmp c.args.key c.args.value c.args.self.now =
    rw (c.in_ok-leaves.ensures.parts.whole, c.deref-3.ensures.value, c.self.view_is) refl in
    rw (map_same (parts_of c.in_ok-nodes.nodes), ← whole) c.in_ok-nodes.ensures
