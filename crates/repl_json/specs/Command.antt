-- The commands of the protocol.
use Rattle.std.specs.Prelude.{ℕ, List, Option, Some, None, codes, if◌then◌else◌}
use Rattle.std.specs.Str.{bytes_eq}
use Rattle.repl_json.specs.declared.command.Command.{Command}
use Rattle.repl_json.specs.declared.command.Command.TheVariants.{Echo, EnvAdd, EnvInspect, EnvCatalog, Start, Move, Tries, Continue, Resume, Print, Delete, Reset, Stat}

-- the command on states of a name
unfoldable pub goal_command_named : List ℕ → Option Command
goal_command_named word =
    if bytes_eq word (codes "goal.start") then Some Start else
    if bytes_eq word (codes "goal.move") then Some Move else
    if bytes_eq word (codes "goal.tries") then Some Tries else
    if bytes_eq word (codes "goal.continue") then Some Continue else
    if bytes_eq word (codes "goal.resume") then Some Resume else
    if bytes_eq word (codes "goal.print") then Some Print else
    if bytes_eq word (codes "goal.delete") then Some Delete else None

-- the command of a name
unfoldable pub command_named : List ℕ → Option Command
command_named word =
    if bytes_eq word (codes "expr.echo") then Some Echo else
    if bytes_eq word (codes "env.add") then Some EnvAdd else
    if bytes_eq word (codes "env.inspect") then Some EnvInspect else
    if bytes_eq word (codes "env.catalog") then Some EnvCatalog else
    if bytes_eq word (codes "reset") then Some Reset else
    if bytes_eq word (codes "stat") then Some Stat else goal_command_named word
