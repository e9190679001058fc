use Rattle.std.proofs.Common.{◌≡◌}
use Rattle.turn_lock.proofs.tests.make_steps.Given as goal

abbrev pub invariant-loop-number : goal.invariant-loop-number
invariant-loop-number g l = l.pass ≡ record l.initial.pass { seen = l.pass.seen; found = l.pass.found }
