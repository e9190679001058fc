use Rattle.std.proofs.Common.{arith}
use Rattle.turn_lock.proofs.Joining.{joins}
use Rattle.turn_lock.proofs.sharing.join_pass.Goals as goal

pub join_seat-requires : goal.join_seat-requires
join_seat-requires g c = (c.requires.table.0, c.requires.other.0, c.requires.other.1, omega (arith, c.requires.table.1), joins _ _ _ _ _ _ _ _ c.requires.idle.0 c.requires.other.2)
