use Rattle.std.proofs.Common.{◌≡◌}
use Rattle.turn_lock.proofs.tests.await_other.Given as goal

abbrev pub invariant-loop : goal.invariant-loop
invariant-loop g l = l.pass ≡ record l.initial.pass { seen = l.pass.seen; found = l.pass.found }
