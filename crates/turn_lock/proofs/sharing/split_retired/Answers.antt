use Rattle.std.proofs.Common.{arith}
use Rattle.turn_lock.proofs.Seats.{sheds}
use Rattle.turn_lock.proofs.sharing.split_retired.Goals as goal

pub split_seat-requires : goal.split_seat-requires
split_seat-requires g c = (c.requires.table.0, omega (arith, c.requires.table.1), sheds _ _ _ _ _ _ c.requires.idle)
