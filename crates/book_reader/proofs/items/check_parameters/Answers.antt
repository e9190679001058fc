use Rattle.std.proofs.Common.{◌∙◌, ap, refl, sym, subst, arith, drop, ◌+◌}
use Rattle.meta_context.specs.Plain.{plain_locals}
use Rattle.conversion.specs.Globals.{AreLocals}
use Rattle.book_reader.specs.Items.{parameters, typed}
use Rattle.book_reader.proofs.Follow.{residual, shows_more, after}
use Rattle.book_reader.proofs.Meanings.{keeps_after, all_push, read_later, items_held, locals_kept, locals_held, locals_more, parameters_next, parameters_over}
use Rattle.book_reader.proofs.items.check_parameters.Goals as goal

pub loop-source-init : goal.loop-source-init
loop-source-init g c = record {
  kept = λ h is. (is, refl);
  held = subst (AreLocals (g.T.Terms.holds c.args.terms.now)) (sym c.new-params.ensures) (λ k d l. absurd (omega arith));
  value = λ Δ d. ap (λ ps. parameters Δ (plain_locals (g.T.Terms.means c.args.terms.now) ps) c.args.sources.now c.args.fuel.now) (sym c.new-params.ensures);
}

pub check_type-requires-clause-items : goal.check_type-requires-clause-items
check_type-requires-clause-items g c =
    items_held (g.T.Terms.holds c.args.terms.now) (g.T.Terms.means c.args.terms.now) (g.T.Terms.holds c.loop-source.terms) (g.T.Terms.means c.loop-source.terms) c.loop-source.invariant.kept c.args.env.now c.requires.items

pub check_type-requires-clause-params : goal.check_type-requires-clause-params
check_type-requires-clause-params g c = c.loop-source.invariant.held

pub returns-in_err-ty-clause-value : goal.returns-in_err-ty-clause-value
returns-in_err-ty-clause-value g c Δ d =
    let h0 = g.T.Terms.holds c.args.terms.now in
    let m0 = g.T.Terms.means c.args.terms.now in
    let h1 = g.T.Terms.holds c.loop-source.terms in
    let m1 = g.T.Terms.means c.loop-source.terms in
    let h = g.T.Terms.holds c.check_type.new.terms in
    let m = g.T.Terms.means c.check_type.new.terms in
    let done = plain_locals m1 c.loop-source.params in
    let r = read_later h0 m0 h1 m1 c.loop-source.invariant.kept c.args.env.now c.loop-source.params Δ c.requires.items d in
    let whole = c.loop-source.invariant.value Δ d ∙ parameters_next Δ done c.args.sources.now c.loop-source.source-index c.loop-source.fuel c.source-item.result (omega arith) c.source-item.is in
    residual h m _ _ _ c.from_residual.result c.in_err-ty.field-0.0 c.from_residual.ensures.1
    (rw whole (shows_more h m (typed Δ done c.source-item.result.ty c.loop-source.fuel) _ c.in_err-ty.field-0.0 (c.in_err-ty.ensures.value Δ done r)))

pub returns-in_err-ty-clause-kept : goal.returns-in_err-ty-clause-kept
returns-in_err-ty-clause-kept g c = keeps_after _ _ _ _ (g.T.Terms.means c.loop-source.terms) _ c.loop-source.invariant.kept c.check_type.ensures.kept

pub returns-in_err-params-clause-kept : goal.returns-in_err-params-clause-kept
returns-in_err-params-clause-kept g c = keeps_after _ _ _ _ (g.T.Terms.means c.loop-source.terms) _ c.loop-source.invariant.kept c.check_type.ensures.kept

pub loop-source-preserved : goal.loop-source-preserved
loop-source-preserved g c =
    let h0 = g.T.Terms.holds c.args.terms.now in
    let m0 = g.T.Terms.means c.args.terms.now in
    let h1 = g.T.Terms.holds c.loop-source.terms in
    let m1 = g.T.Terms.means c.loop-source.terms in
    let h = g.T.Terms.holds c.check_type.new.terms in
    let m = g.T.Terms.means c.check_type.new.terms in
    let done = plain_locals m1 c.loop-source.params in
    let rest = drop (c.loop-source.source-index + 1) c.args.sources.now in
    let same = locals_kept h1 m1 h m c.check_type.ensures.kept c.loop-source.params c.loop-source.invariant.held in
    record {
      kept = keeps_after _ _ _ _ m1 _ c.loop-source.invariant.kept c.check_type.ensures.kept;
      held = subst (AreLocals h) (sym c.in_ok-params.ensures) (all_push (λ l. h l.ty) c.loop-source.params _ (locals_held h1 m1 h m c.check_type.ensures.kept c.loop-source.params c.loop-source.invariant.held) c.in_ok-ty.ensures.held);
      value = λ Δ d.
          let r = read_later h0 m0 h1 m1 c.loop-source.invariant.kept c.args.env.now c.loop-source.params Δ c.requires.items d in
          c.loop-source.invariant.value Δ d
          ∙ parameters_next Δ done c.args.sources.now c.loop-source.source-index c.loop-source.fuel c.source-item.result (omega arith) c.source-item.is
          ∙ after (typed Δ done c.source-item.result.ty c.loop-source.fuel) (m c.in_ok-ty.ty) c.check_type.new.fuel _ (c.in_ok-ty.ensures.value Δ done r)
          ∙ ap (λ ls. parameters Δ ls rest c.check_type.new.fuel) (sym (locals_more m c.loop-source.params c.in_ok-params.params c.source-item.result.name c.in_ok-ty.ty done c.in_ok-params.ensures same));
    }

pub returns-clause-value : goal.returns-clause-value
returns-clause-value g c Δ d =
    c.loop-source.invariant.value Δ d ∙ parameters_over Δ (plain_locals (g.T.Terms.means c.loop-source.terms) c.loop-source.params) c.args.sources.now c.loop-source.source-index c.loop-source.fuel (omega arith)

pub returns-clause-held : goal.returns-clause-held
returns-clause-held g c = c.loop-source.invariant.held

pub returns-clause-kept : goal.returns-clause-kept
returns-clause-kept g c = c.loop-source.invariant.kept
