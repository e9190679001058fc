use Rattle.std.proofs.Common.{subst}
use Rattle.ld_rules.specs.Derivation.{sort}
use Rattle.meta_context.specs.Plain.{plain_items}
use Rattle.book_reader.specs.Answers.{ShowsBook}
use Rattle.book_reader.specs.Book.{book_value}
use Rattle.command_set.proofs.Answered.{book_showable}
use Rattle.panto_cli.proofs.book.items_of.Goals as goal

pub new-requires-clause-legal : goal.new-requires-clause-legal
new-requires-clause-legal g c = c.in-Ok.ensures.legal (rw c.new-nothing.ensures sort)

pub returns-in-Err-clause-refused : goal.returns-in-Err-clause-refused
returns-in-Err-clause-refused g c =
    let terms = c.read_book.new.terms in
    c.refusal_of.ensures _ (subst
    (λ items. ShowsBook (g.T.Terms.holds terms) (g.T.Terms.means terms) (book_value (plain_items (g.T.Terms.means c.args.terms) items) 10000000 c.args.text.now) c.in-Err.fault)
    c.new-nothing.ensures c.in-Err.ensures.exact)

pub refusal_of-requires : goal.refusal_of-requires
refusal_of-requires g c = record { shown = book_showable (g.T.Terms.holds c.read_book.new.terms) (g.T.Terms.means c.read_book.new.terms) _ c.in-Err.fault c.in-Err.ensures.exact }
