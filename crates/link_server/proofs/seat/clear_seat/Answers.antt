use Rattle.std.proofs.Common.{refl}
use Rattle.link_server.proofs.seat.clear_seat.Goals as goal

pub returns-clause-served : goal.returns-clause-served
returns-clause-served g c = rw c.number-number.ensures.is refl
