use Rattle.std.proofs.Common.{◌≡◌, ◌≢◌, ◌-◌, suc, get_or, arith}
use Rattle.pattern_unify.proofs.Places.{found_there, not_there}
use Rattle.pattern_unify.proofs.variables.place_among.Goals as goal

pub returns-then-variables-k : goal.returns-then-variables-k
returns-then-variables-k c =
    let vs = c.args.variables.now in
    let k = c.loop-k.k - 1 in
    let e : c.loop-k.k ≡ suc k = omega (arith, c.loop-k-test.true) in
    let there : get_or vs k 0 ≡ c.args.i = c.if-variables-k.true in
    found_there vs c.args.i c.loop-k.k k e (omega (arith, c.loop-k-test.true, c.loop-k.auto.k)) c.loop-k.invariant there

pub loop-k-preserved : goal.loop-k-preserved
loop-k-preserved c =
    let vs = c.args.variables.now in
    let k = c.loop-k.k - 1 in
    let e : c.loop-k.k ≡ suc k = omega (arith, c.loop-k-test.true) in
    let apart : get_or vs k 0 ≢ c.args.i = c.if-variables-k.false in
    not_there vs c.args.i c.loop-k.k k e (omega (arith, c.loop-k-test.true, c.loop-k.auto.k)) c.loop-k.invariant apart
