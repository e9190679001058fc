use Rattle.std.proofs.Common.{arith}
use Rattle.turn_lock.proofs.Serving.{enters}
use Rattle.turn_lock.proofs.turning.enter_entry.Goals as goal

pub fetch_add-requires : goal.fetch_add-requires
fetch_add-requires g c = let r = c.requires.entry in (c.requires.table.0, omega (arith, c.requires.table.1), rw c.requires.table.2 (enters _ _ _ _ _ _ _ r.0 r.1 c.requires.holding.0 r.2 r.3 r.4 c.requires.holding.1))

pub returns-clause-view : goal.returns-clause-view
returns-clause-view g c = λ x is. c.fetch_add.ensures.2.1 _ x c.requires.holding.0 is
