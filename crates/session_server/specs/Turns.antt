-- Whether the turns of a board were enough for a session.
use Rattle.std.specs.Prelude.{◌≡◌, ◌≤◌}
use Rattle.turn_lock.specs.Meanings.{MAX_TURNS}
use Rattle.shared_board.specs.Boards.{BoardPassMeaning}
use Rattle.shared_board.specs.Calls.{IsInTime}
use Rattle.session_server.specs.declared.run.End.{End}
use Rattle.session_server.specs.declared.run.End.TheVariants.{Done, ReadFault, WriteFault, Full, Worn, Long, Memory}

-- A session that ends as worn has asked for a turn after the last one, and tells the found number of its pass. Any other took no turn, or only
-- turns that the lock has.
abbrev pub TurnsBy : {E : Type 0} → BoardPassMeaning E → BoardPassMeaning E → End → Type 0
TurnsBy old new Done = IsInTime old new
TurnsBy old new ReadFault = IsInTime old new
TurnsBy old new WriteFault = IsInTime old new
TurnsBy old new (Full n) = IsInTime old new
TurnsBy old new (Worn n) = (n ≡ new.found) × (MAX_TURNS ≤ new.found)
TurnsBy old new (Long n) = IsInTime old new
TurnsBy old new Memory = IsInTime old new
