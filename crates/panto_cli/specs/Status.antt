-- The statuses of a run, and the ends of a session that they name.
use Rattle.std.specs.Prelude.{ℕ}
use Rattle.session_server.specs.declared.run.End.{End}
use Rattle.session_server.specs.declared.run.End.TheVariants as ending
use Rattle.panto_cli.specs.declared.status.Status.{Status}
use Rattle.panto_cli.specs.declared.status.Status.TheVariants.{Done, Usage, ReadFault, WriteFault, BookRefused, Full, OpenFault, Worn, Memory, Long}

-- the code that the program ends with
abbrev pub code_of : Status → ℕ
code_of Done = 0
code_of Usage = 2
code_of ReadFault = 3
code_of WriteFault = 4
code_of BookRefused = 5
code_of Full = 6
code_of OpenFault = 7
code_of Worn = 8
code_of Memory = 9
code_of Long = 10

abbrev pub status_of : End → Status
status_of ending.Done = Done
status_of ending.ReadFault = ReadFault
status_of ending.WriteFault = WriteFault
status_of (ending.Full entries) = Full
status_of (ending.Worn turns) = Worn
status_of (ending.Long bytes) = Long
status_of ending.Memory = Memory
