use Rattle.std.proofs.Common.{arith}
use Rattle.turn_lock.proofs.Serving.{taken}
use Rattle.turn_lock.proofs.turning.take_value.Goals as goal

pub fetch_add-requires : goal.fetch_add-requires
fetch_add-requires g c = (c.requires.table.0, omega (arith, c.requires.table.1), rw c.requires.table.2 (taken _ _ _ _ _ _ _ c.requires.called))

pub returns-clause-took : goal.returns-clause-took
returns-clause-took g c = c.fetch_add.ensures.2 _ c.requires.called
