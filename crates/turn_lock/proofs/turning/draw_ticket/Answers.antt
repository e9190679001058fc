use Rattle.std.proofs.Common.{arith}
use Rattle.turn_lock.proofs.Drawing.{draws}
use Rattle.turn_lock.proofs.turning.draw_ticket.Goals as goal

pub fetch_add-requires : goal.fetch_add-requires
fetch_add-requires g c = (c.requires.table.0, omega (arith, c.requires.table.1), rw c.requires.table.2 (draws _ _ _ _ _ _ c.requires.idle c.requires.early))
