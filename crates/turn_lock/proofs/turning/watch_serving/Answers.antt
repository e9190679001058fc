use Rattle.std.proofs.Common.{arith}
use Rattle.turn_lock.proofs.Serving.{watches}
use Rattle.turn_lock.proofs.turning.watch_serving.Goals as goal

pub load-requires : goal.load-requires
load-requires g c = (c.requires.table.0, omega (arith, c.requires.table.1), rw c.requires.table.2 (watches _ _ _ _ _ _ _ c.requires.waits))
