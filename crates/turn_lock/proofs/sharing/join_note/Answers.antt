use Rattle.std.proofs.Common.{arith}
use Rattle.turn_lock.proofs.Joining.{hears}
use Rattle.turn_lock.proofs.sharing.join_note.Goals as goal

pub join_seat-requires : goal.join_seat-requires
join_seat-requires g c = (c.requires.table.0, c.requires.note.0, c.requires.note.1.empty, omega (arith, c.requires.table.1), hears _ _ _ _ _ _ _ _ c.requires.idle.0 c.requires.idle.2 c.requires.note.1.note c.requires.note.1.uncounted.0 c.requires.note.1.uncounted.1)
