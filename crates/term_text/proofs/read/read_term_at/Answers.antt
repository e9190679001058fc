use Rattle.term_syntax.proofs.FromPlace.{found_at, only_at, refused_at}
use Rattle.term_text.proofs.read.read_term_at.Goals as goal

pub returns-clause-found : goal.returns-clause-found
returns-clause-found c = found_at c.args.text.now c.args.at c.read_from.result c.read_from.ensures

pub returns-clause-only : goal.returns-clause-only
returns-clause-only c = λ t after s. only_at c.args.text.now c.args.at t after s c.read_from.result c.read_from.ensures

pub returns-clause-refused : goal.returns-clause-refused
returns-clause-refused c = λ n e. refused_at c.args.text.now c.args.at n c.read_from.result c.read_from.ensures e
