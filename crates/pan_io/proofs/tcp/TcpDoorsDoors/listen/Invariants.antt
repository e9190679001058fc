use Rattle.std.proofs.Common.{◌≡◌}
use Rattle.pan_io.proofs.tcp.TcpDoorsDoors.listen.Given as goal

abbrev pub invariant-tries : goal.invariant-tries
invariant-tries g l = l.self.faults.count ≡ l.fn.self.faults.count
