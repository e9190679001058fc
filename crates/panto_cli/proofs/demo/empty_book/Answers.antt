use Rattle.ld_rules.specs.Derivation.{sort}
use Rattle.panto_cli.proofs.demo.empty_book.Goals as goal

pub new-requires-2-clause-legal : goal.new-requires-2-clause-legal
new-requires-2-clause-legal c = rw c.new-items.ensures sort
