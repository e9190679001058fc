use Rattle.ld_rules.specs.Derivation.{sort}
use Rattle.continue_resume.proofs.tests.start.Goals as goal

pub start-requires-clause-legal : goal.start-requires-clause-legal
start-requires-clause-legal g c = rw c.new-env.ensures sort
