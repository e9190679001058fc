use Rattle.std.proofs.Common.{arith}
use Rattle.turn_lock.proofs.Splitting.{tells}
use Rattle.turn_lock.proofs.sharing.split_note.Goals as goal

pub split_seat-requires : goal.split_seat-requires
split_seat-requires g c = (c.requires.table.0, omega (arith, c.requires.table.1), tells _ _ _ _ _ _ c.requires.idle)
