-- The ranges of the numbers in a form.
use Rattle.std.specs.Prelude.{◌<◌, ◌≤◌}
use Rattle.command_line.specs.Form.{Command, run, serve, check, demo}

abbrev pub IsInRange : Command → Type 0
IsInRange (run book entries workers) = (0 < entries) × (entries ≤ 1048576) × (0 < workers) × (workers ≤ 64)
IsInRange (serve listen book entries workers sessions) = (0 < entries) × (entries ≤ 1048576) × (0 < workers) × (workers ≤ 64) × (0 < sessions) × (sessions ≤ 64)
IsInRange (check file) = Unit {0}
IsInRange (demo seed count) = count ≤ 10000
