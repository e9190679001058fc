use Rattle.ld_rules.specs.Derivation.{sort}
use Rattle.command_set.proofs.environment.Environment.empty.Goals as goal

pub new-requires-2-clause-legal : goal.new-requires-2-clause-legal
new-requires-2-clause-legal g c = rw c.new.ensures sort
