use Rattle.std.proofs.Common.{All, ◌∷◌, List, ap, subst, sym, ◌∙◌}
use Rattle.ld_trees.specs.Term.{Term}
use Rattle.ld_terms.specs.declared.globals.Item.{Item}
use Rattle.conversion.specs.Globals.{IsItemOf}
use Rattle.meta_context.specs.Plain.{plain_item, plain_items}
use Rattle.book_reader.specs.Items.{item}
use Rattle.book_reader.specs.Checked.{Shows}
use Rattle.book_reader.proofs.Meanings.{items_kept, items_held}
use Rattle.book_reader.proofs.Entering.{all_first}
use Rattle.book_reader.proofs.book.enter_item.Goals as goal

pub returns-in_ok-push-in-Ok-clause-step : goal.returns-in_ok-push-in-Ok-clause-step
returns-in_ok-push-in-Ok-clause-step g c Δ d =
    let h0 = g.T.Terms.holds c.args.terms.now in
    let m0 = g.T.Terms.means c.args.terms.now in
    let h = g.T.Terms.holds c.check_item.new.terms in
    let m = g.T.Terms.means c.check_item.new.terms in
    let kept = c.check_item.ensures.kept in (
      plain_item m c.in-Ok.item,
      c.check_item.new.fuel,
      ap (λ n. item Δ c.args.source.now n) (sym c.new-fuel.ensures) ∙ c.in-Ok.ensures.value Δ d,
      ap (plain_items m) c.in_ok-push-in-Ok.ensures ∙ ap (λ (is : List (Item Term)). plain_item m c.in-Ok.item ∷ is) (items_kept h0 m0 h m kept c.args.env.now c.requires.items ∙ d),
      subst (All (IsItemOf h)) (sym c.in_ok-push-in-Ok.ensures) (all_first (IsItemOf h) c.in-Ok.item c.args.env.now c.in-Ok.ensures.held (items_held h0 m0 h m kept c.args.env.now c.requires.items)),
    )

pub returns-in-Err-clause-step : goal.returns-in-Err-clause-step
returns-in-Err-clause-step g c Δ d =
    let h = g.T.Terms.holds c.check_item.new.terms in
    let m = g.T.Terms.means c.check_item.new.terms in
    (c.in-Err.fault, c.at_item.ensures, subst (λ n. Shows h m (item Δ c.args.source.now n) c.in-Err.fault) c.new-fuel.ensures (c.in-Err.ensures.value Δ d))
