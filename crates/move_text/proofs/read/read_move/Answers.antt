use Rattle.move_text.proofs.Texts.{found, only, named}
use Rattle.move_text.proofs.read.read_move.Goals as goal

pub returns-clause-found : goal.returns-clause-found
returns-clause-found c = found c.args.text.now c.read_all.result c.read_all.ensures

pub returns-clause-only : goal.returns-clause-only
returns-clause-only c = only c.args.text.now c.read_all.result c.read_all.ensures

pub returns-clause-named : goal.returns-clause-named
returns-clause-named c = named c.args.text.now c.read_all.result c.read_all.ensures
