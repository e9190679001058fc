use Rattle.std.proofs.Common.{◌∙◌, sym, ap, ap₂}
use Rattle.book_reader.specs.Book.{book_value}
use Rattle.meta_context.specs.Plain.{plain_items}
use Rattle.state_tree.specs.Value.{Says, MakesEnv}
use Rattle.command_set.specs.Values.{added_value}
use Rattle.command_set.proofs.Answered.{refused_is, book_showable}
use Rattle.command_set.proofs.Kept.{items_kept, stored_kept}
use Rattle.command_set.proofs.env_add.add_items.Goals as goal

pub new-requires-clause-legal : goal.new-requires-clause-legal
new-requires-clause-legal g c =
    let s = c.stored-stored.result.now.terms in
    let n = c.in_ok-terms.terms in
    c.in-Ok.ensures.legal (stored_kept (g.T.Terms.holds s) (g.T.Terms.means s) (g.T.Terms.holds n) (g.T.Terms.means n) c.in_ok-terms.ensures c.stored-stored.result.now.items c.stored-stored.ensures.stored).legal

pub book_members-requires : goal.book_members-requires
book_members-requires g c = record { shown = book_showable (g.T.Terms.holds c.read_book.new.terms) (g.T.Terms.means c.read_book.new.terms) _ c.in-Err.fault c.in-Err.ensures.exact }

pub returns-in_ok-new-in-Ok : goal.returns-in_ok-new-in-Ok
returns-in_ok-new-in-Ok g c =
    let s = c.stored-stored.result.now.terms in
    let n = c.in_ok-terms.terms in
    let same = items_kept (g.T.Terms.holds s) (g.T.Terms.means s) (g.T.Terms.holds n) (g.T.Terms.means n) c.in_ok-terms.ensures c.stored-stored.result.now.items c.stored-stored.ensures.stored.held ∙ c.stored-stored.ensures.plain in
    ap (λ is. added_value (book_value is c.args.units c.args.text.now)) (sym same) ∙ ap added_value c.in-Ok.ensures.exact.0 ∙ ap₂ MakesEnv (sym c.in_ok-new-in-Ok.ensures) (sym c.in_ok-body-in-Ok.ensures)

pub returns-in_ok-to_body-in-Err : goal.returns-in_ok-to_body-in-Err
returns-in_ok-to_body-in-Err g c =
    let s = c.stored-stored.result.now.terms in
    let n = c.in_ok-terms.terms in
    let b = c.read_book.new.terms in
    let same = items_kept (g.T.Terms.holds s) (g.T.Terms.means s) (g.T.Terms.holds n) (g.T.Terms.means n) c.in_ok-terms.ensures c.stored-stored.result.now.items c.stored-stored.ensures.stored.held ∙ c.stored-stored.ensures.plain in
    let o = book_value (plain_items (g.T.Terms.means n) c.stored-stored.result.now.items) c.args.units c.args.text.now in
    ap (λ is. added_value (book_value is c.args.units c.args.text.now)) (sym same)
    ∙ refused_is (g.T.Terms.holds b) (g.T.Terms.means b) o c.in-Err.fault c.in_ok-members-in-Err.members c.in-Err.ensures.exact c.in_ok-members-in-Err.ensures.some c.in_ok-members-in-Err.ensures.value
    ∙ ap Says (sym c.in_ok-to_body-in-Err.ensures)
