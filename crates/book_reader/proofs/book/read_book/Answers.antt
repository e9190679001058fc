use Rattle.meta_context.specs.Plain.{plain_items}
use Rattle.book_reader.proofs.Whole.{book_legal, found, only, refused_at}
use Rattle.book_reader.proofs.book.read_book.Goals as goal

pub returns-clause-found : goal.returns-clause-found
returns-clause-found g c =
    found (g.T.Terms.holds c.enter_text.new.terms) (g.T.Terms.means c.enter_text.new.terms) (plain_items (g.T.Terms.means c.args.terms.now) c.args.env.now) c.args.units c.args.text.now c.enter_text.result c.enter_text.ensures.exact

pub returns-clause-only : goal.returns-clause-only
returns-clause-only g c =
    only (g.T.Terms.holds c.enter_text.new.terms) (g.T.Terms.means c.enter_text.new.terms) (plain_items (g.T.Terms.means c.args.terms.now) c.args.env.now) c.args.units c.args.text.now c.enter_text.result c.enter_text.ensures.exact

pub returns-clause-refused : goal.returns-clause-refused
returns-clause-refused g c =
    refused_at (g.T.Terms.holds c.enter_text.new.terms) (g.T.Terms.means c.enter_text.new.terms) (plain_items (g.T.Terms.means c.args.terms.now) c.args.env.now) c.args.units c.args.text.now c.enter_text.result c.enter_text.ensures.exact

pub returns-clause-legal : goal.returns-clause-legal
returns-clause-legal g c =
    book_legal (g.T.Terms.holds c.enter_text.new.terms) (g.T.Terms.means c.args.terms.now) (g.T.Terms.means c.enter_text.new.terms) c.args.env.now c.args.units c.args.text.now c.enter_text.result c.enter_text.ensures.exact
