use Rattle.shared_map.proofs.Edits.{put_sorted, put_some, put_few}
use Rattle.shared_map.proofs.leaf.LeafPart.with.Goals as goal

pub leaves_of-requires-clause-sorted : goal.leaves_of-requires-clause-sorted
leaves_of-requires-clause-sorted g c = rw (c.in_ok-entries.ensures.changed, c.deref-2.ensures.value) (put_sorted g.K.Ord.cmp g.met.K.Ord.total c.args.key c.args.value c.self.inside.entries.items c.self.invariant.sorted)

pub leaves_of-requires-clause-some : goal.leaves_of-requires-clause-some
leaves_of-requires-clause-some g c = rw (c.in_ok-entries.ensures.changed, c.deref-2.ensures.value) (put_some g.K.Ord.cmp g.met.K.Ord.total c.args.key c.args.value c.self.inside.entries.items c.self.invariant.sorted c.self.invariant.some)

pub leaves_of-requires-clause-few : goal.leaves_of-requires-clause-few
leaves_of-requires-clause-few g c = rw (c.in_ok-entries.ensures.changed, c.deref-2.ensures.value) (put_few g.K.Ord.cmp g.met.K.Ord.total c.args.key c.args.value c.self.inside.entries.items 64 c.self.invariant.sorted c.self.invariant.few)
