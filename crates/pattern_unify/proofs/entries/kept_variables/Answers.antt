use Rattle.std.proofs.Common.{◌+◌, ◌-◌, length, refl, arith}
use Rattle.pattern_unify.proofs.Places.{variable_turn}
use Rattle.pattern_unify.proofs.entries.kept_variables.Goals as goal

pub loop-k-preserved : goal.loop-k-preserved
loop-k-preserved c =
    variable_turn c.args.flags.now c.loop-k.k c.loop-k.variables.items (omega (arith, c.loop-k-test.true)) c.loop-k.invariant _ refl (c.loop-k.k + 1) (length c.args.flags.now - 1 - c.loop-k.k) c.keep_variable.new.variables.items refl refl c.in_ok-keep_variable.ensures
