use Rattle.std.proofs.Common.{arith}
use Rattle.turn_lock.proofs.Serving.{looks}
use Rattle.turn_lock.proofs.sharing.read_count.Goals as goal

pub load-requires : goal.load-requires
load-requires g c = (c.requires.table.0, omega (arith, c.requires.table.1), rw c.requires.table.2 (looks _ _ _ _ _ _ c.requires.idle))
