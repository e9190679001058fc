use Rattle.std.proofs.Common.{◌-◌, ◌<◌, length, get_or, false, arith}
use Rattle.pattern_unify.proofs.Places.{counting_begins, counted, over, one_at_most}
use Rattle.pattern_unify.proofs.variables.thinned.Goals as goal

pub loop-k-init : goal.loop-k-init
loop-k-init c = (counting_begins c.args.flags.now, omega arith, omega arith)

pub returns-then-from_last-flags : goal.returns-then-from_last-flags
returns-then-from_last-flags c =
    over c.args.flags.now c.loop-k.k c.args.entries c.loop-k.kept (omega (arith, c.if-from_last-flags.true)) (omega (arith, c.loop-k-test.true)) c.loop-k.invariant.0

pub loop-k-preserved : goal.loop-k-preserved
loop-k-preserved c =
    let flags = c.args.flags.now in
    let inside : c.loop-k.k < length flags = omega (arith, c.if-from_last-flags.false) in (
      counted flags c.loop-k.k c.loop-k.kept c.with_one-kept.result inside c.loop-k.invariant.0 c.with_one-kept.ensures,
      omega (arith, c.with_one-kept.ensures, c.loop-k.invariant.1, one_at_most (get_or flags (length flags - 1 - c.loop-k.k) false)),
      omega (arith, inside),
    )
