use Rattle.std.proofs.Common.{sym, ap, ◌∙◌, length}
use Rattle.std.proofs.lemmas.List.{length-map}
use Rattle.command_set.proofs.environment.Environment.len.Goals as goal

pub returns : goal.returns
returns g c = c.len.ensures.counted ∙ sym (length-map _ _) ∙ ap length c.stored.ensures.plain
