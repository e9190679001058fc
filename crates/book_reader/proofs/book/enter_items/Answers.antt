use Rattle.std.proofs.Common.{All, ◌∙◌, ◌+◌, ap, refl, sym, subst, arith}
use Rattle.conversion.specs.Globals.{IsItemOf}
use Rattle.meta_context.specs.Plain.{plain_items}
use Rattle.book_reader.specs.Book.{enter}
use Rattle.book_reader.specs.Answers.{ShowsBook}
use Rattle.book_reader.specs.Items.{item}
use Rattle.book_reader.proofs.Meanings.{keeps_after}
use Rattle.book_reader.proofs.Entering.{passed_on, enter_over, faulted, after_step, step_held}
use Rattle.book_reader.proofs.book.enter_items.Goals as goal

pub loop-source-init : goal.loop-source-init
loop-source-init g c = record {
  counted = refl;
  kept = λ h is. (is, refl);
  held = subst (All (IsItemOf (g.T.Terms.holds c.args.terms.now))) (sym c.in_ok-made.ensures) c.requires.items;
  value = ap (λ is. enter c.args.units 0 (plain_items (g.T.Terms.means c.args.terms.now) is) c.args.sources.now) (sym c.in_ok-made.ensures);
}

pub returns-in_err-made-2-clause-exact : goal.returns-in_err-made-2-clause-exact
returns-in_err-made-2-clause-exact g c =
    let h = g.T.Terms.holds c.enter_item.new.terms in
    let m = g.T.Terms.means c.enter_item.new.terms in
    let Δ = plain_items (g.T.Terms.means c.loop-source.terms) c.loop-source.made in
    let e = c.in_err-made-2.field-0.0 in
    passed_on h m _ c.from_residual-in_err-made-2.result e c.from_residual-in_err-made-2.ensures.1
    (subst (λ o. ShowsBook h m o e) (sym c.loop-source.invariant.value)
    (faulted h m c.args.units c.loop-source.number Δ c.args.sources.now c.loop-source.source-index c.source-item.result (omega arith) c.source-item.is e (c.in_err-made-2.ensures.step Δ refl)))

pub loop-source-preserved : goal.loop-source-preserved
loop-source-preserved g c =
    let h = g.T.Terms.holds c.enter_item.new.terms in
    let m = g.T.Terms.means c.enter_item.new.terms in
    let Δ = plain_items (g.T.Terms.means c.loop-source.terms) c.loop-source.made in
    let step = c.in_ok-made-2.ensures.step Δ refl in
    record {
      counted = omega arith;
      kept = keeps_after _ _ _ _ (g.T.Terms.means c.loop-source.terms) _ c.loop-source.invariant.kept c.enter_item.ensures.kept;
      held = step_held h m c.loop-source.number Δ (item Δ c.source-item.result c.args.units) c.in_ok-made-2.made step;
      value = c.loop-source.invariant.value ∙ after_step h m c.args.units c.loop-source.number Δ c.args.sources.now c.loop-source.source-index c.source-item.result (omega arith) c.source-item.is c.in_ok-made-2.made (c.loop-source.number + 1) step refl;
    }

pub returns-clause-exact : goal.returns-clause-exact
returns-clause-exact g c = (c.loop-source.invariant.value ∙ enter_over c.args.units c.loop-source.number (plain_items (g.T.Terms.means c.loop-source.terms) c.loop-source.made) c.args.sources.now c.loop-source.source-index (omega arith), c.loop-source.invariant.held)
