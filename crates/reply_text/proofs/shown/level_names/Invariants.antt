use Rattle.std.proofs.Common.{◌≡◌}
use Rattle.reply_text.specs.Shown.{level_names}
use Rattle.reply_text.proofs.shown.level_names.Given as goal

abbrev pub invariant-loop-level : goal.invariant-loop-level
invariant-loop-level l = l.names.items ≡ level_names l.level
