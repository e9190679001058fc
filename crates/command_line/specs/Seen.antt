-- The form that a value of the program stands for.
use Rattle.std.specs.Prelude.{option_map}
use Rattle.command_line.specs.Form.{Command, run, serve, check, demo}
use Rattle.command_line.specs.declared.words.Form.{Form}
use Rattle.command_line.specs.declared.words.Form.TheVariants.{Run, Serve, Check, Demo}

abbrev pub seen : Form → Command
seen (Run book entries workers) = run (option_map (λ s. s.now) book) entries workers
seen (Serve listen book entries workers sessions) = serve listen.now (option_map (λ s. s.now) book) entries workers sessions
seen (Check file) = check file.now
seen (Demo seed count) = demo seed count
