use Rattle.ld_rules.specs.Derivation.{sort}
use Rattle.coupling.proofs.tests.start_with.Goals as goal

pub start-requires-clause-legal : goal.start-requires-clause-legal
start-requires-clause-legal g c = rw c.new-env.ensures sort
