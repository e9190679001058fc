use Rattle.std.proofs.Common.{arith, ◌≡◌, ◌+◌, ◌-◌, ◌<◌, length}
use Rattle.conversion.proofs.PartPairs.{back_pairs_more}
use Rattle.conversion.proofs.pairs.pair_arguments.Goals as goal

pub loop-i-preserved : goal.loop-i-preserved
loop-i-preserved g c =
    let n : c.loop-i.i ≡ c.loop-i.i - 1 + 1 = omega (arith, c.loop-i-test.true) in
    let l : c.loop-i.i - 1 < length c.args.us.now = omega (arith, c.loop-i-test.true, c.loop-i.auto.i) in
    let m : c.loop-i.i - 1 < length c.args.vs.now = omega (arith, c.loop-i-test.true, c.loop-i.auto.i, c.if-us-vs.false) in
    back_pairs_more c.args.us.now c.args.vs.now c.loop-i.i (c.loop-i.i - 1) c.index-us-i.result c.index-vs-i.result c.loop-i.pairs.items c.push.new.self.items c.args.pairs.now.items
    n l m c.index-us-i.is c.index-vs-i.is c.loop-i.invariant c.in_ok-push.ensures.items
