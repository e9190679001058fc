use Rattle.std.proofs.Common.{◌≡◌}
use Rattle.pan_io.proofs.system.write_to.Given as goal

abbrev pub invariant-tries : goal.invariant-tries
invariant-tries g l = l.faults.count ≡ l.fn.faults.count
