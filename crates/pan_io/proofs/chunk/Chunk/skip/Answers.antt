use Rattle.std.proofs.Common.{◌+◌, ◌-◌, ◌≤◌, arith, ap, drop, length}
use Rattle.std.proofs.lemmas.List.{length-take}
use Rattle.pan_io.proofs.Runs.{range_skip}
use Rattle.pan_io.proofs.chunk.Chunk.skip.Goals as goal

pub returns : goal.returns
returns c =
    let i = c.self.inside in
    let size : c.args.count + i.from ≤ i.till = omega (arith, c.requires, ap length c.self.view_is, length-take (i.till - i.from) (drop i.from i.bytes.items), c.self.invariant.0) in
    rw (← c.self.view_is) (range_skip i.bytes.items i.from c.args.count i.till size)
