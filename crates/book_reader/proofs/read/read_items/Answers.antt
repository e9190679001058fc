use Rattle.book_reader.proofs.Texts.{named}
use Rattle.book_reader.proofs.read.read_items.Goals as goal

pub returns-clause-named : goal.returns-clause-named
returns-clause-named c = named c.args.text.now c.read_all.result c.read_all.ensures
