use Rattle.std.proofs.Common.{arith}
use Rattle.turn_lock.proofs.Serving.{passes}
use Rattle.turn_lock.proofs.turning.pass_on.Goals as goal

pub fetch_add-requires : goal.fetch_add-requires
fetch_add-requires g c = let r = c.requires.slot in (c.requires.table.0, omega (arith, c.requires.table.1), rw c.requires.table.2 (passes _ _ _ _ _ _ r.0 c.requires.holds r.1 r.2 r.3))
