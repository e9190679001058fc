use Rattle.term_text.proofs.PrintedBack.{printed_back, printed_ascii}
use Rattle.term_text.proofs.print.print_term.Goals as goal

pub returns-clause-reads_back : goal.returns-clause-reads_back
returns-clause-reads_back g c closed = printed_back c.args.names.now (g.T.Terms.means c.args.terms.now c.args.h) c.print_any.result c.requires.context closed c.print_any.ensures

pub returns-clause-ascii : goal.returns-clause-ascii
returns-clause-ascii g c = printed_ascii c.args.names.now (g.T.Terms.means c.args.terms.now c.args.h) c.print_any.result c.print_any.ensures
