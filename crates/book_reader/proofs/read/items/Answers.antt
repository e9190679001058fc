use Rattle.std.proofs.Common.{sym, ◌∙◌, arith}
use Rattle.book_reader.proofs.Turns.{items_init, items_turn, items_done, items_refused, item_shorter, passed}
use Rattle.book_reader.proofs.read.items.Goals as goal

pub more-init : goal.more-init
more-init c = items_init c.args.cursor.now c.new-found.result.items c.new-found.ensures.items

pub returns-in_err-next : goal.returns-in_err-next
returns-in_err-next c =
    passed _ c.from_residual.result c.in_err-next.field-0.0 _ c.from_residual.ensures.1
    (items_refused _ c.more.cursor c.more.found.items c.in_err-next.field-0.0 c.item.new.cursor c.more.invariant (sym c.is_over.ensures ∙ c.more-test.true) c.in_err-next.ensures)

pub more-smaller : goal.more-smaller
more-smaller c = omega (arith, item_shorter c.more.cursor c.in_ok-next.next c.item.new.cursor c.in_ok-next.ensures)

pub more-preserved : goal.more-preserved
more-preserved c = items_turn _ c.more.cursor c.more.found.items c.in_ok-next.next c.item.new.cursor c.push.new.self.items c.more.invariant (sym c.is_over.ensures ∙ c.more-test.true) c.in_ok-next.ensures c.in_ok-push.ensures.items

pub returns : goal.returns
returns c = rw c.of.ensures (items_done _ c.more.cursor c.more.found.items c.more.invariant (sym c.is_over.ensures ∙ c.more-test.false))
