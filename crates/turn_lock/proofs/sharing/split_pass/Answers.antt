use Rattle.std.proofs.Common.{arith}
use Rattle.turn_lock.proofs.Splitting.{splits}
use Rattle.turn_lock.proofs.sharing.split_pass.Goals as goal

pub split_seat-requires : goal.split_seat-requires
split_seat-requires g c = (c.requires.table.0, omega (arith, c.requires.table.1), rw (← c.requires.pick) (splits _ _ _ _ _ _ c.args._number c.requires.idle.0 c.requires.idle.1 c.requires.number.0 c.requires.number.1 c.requires.number.2))
