use Rattle.std.proofs.Common.{◌≡◌}
use Rattle.pan_io.proofs.tcp.accept_from.Given as goal

abbrev pub invariant-tries : goal.invariant-tries
invariant-tries l = l.faults.count ≡ l.fn.faults.count
