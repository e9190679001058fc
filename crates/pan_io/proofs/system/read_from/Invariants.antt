use Rattle.std.proofs.Common.{◌≡◌}
use Rattle.pan_io.proofs.system.read_from.Given as goal

abbrev pub invariant-tries : goal.invariant-tries
invariant-tries g l = l.faults.count ≡ l.fn.faults.count
