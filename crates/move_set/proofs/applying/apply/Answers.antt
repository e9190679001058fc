use Rattle.std.proofs.Common.{◌∙◌, Ok, refl, sym, subst}
use Rattle.meta_context.specs.Plain.{rules_env}
use Rattle.goal_state.specs.State.{plain_metas}
use Rattle.ld_terms.proofs.Turns.{keeps_both}
use Rattle.pattern_unify.proofs.Meanings.{read_kept}
use Rattle.move_set.specs.Answers.{IsApplicationIn, IsTurn, Shows, application_of, plain_application}
use Rattle.move_set.specs.Applying.{apply}
use Rattle.move_set.proofs.Follow.{residual}
use Rattle.move_set.proofs.Meanings.{decl_kept}
use Rattle.move_set.proofs.applying.apply.Goals as goal

pub returns-in_err-fitted-clause-value : goal.returns-in_err-fitted-clause-value
returns-in_err-fitted-clause-value g c Δ a d e is same =
    let h0 = g.T.Terms.holds c.args.terms.now in
    let m0 = g.T.Terms.means c.args.terms.now in
    let h1 = g.T.Terms.holds c.loop-fitted.terms in
    let m1 = g.T.Terms.means c.loop-fitted.terms in
    let h2 = g.T.Terms.holds c.take_turn.new.terms in
    let m2 = g.T.Terms.means c.take_turn.new.terms in
    let kept = c.loop-fitted.invariant.kept in
    let items = (read_kept h0 m0 h1 m1 kept c.args.env.now c.args.start.metas Δ (plain_metas m0 c.args.start.metas) c.requires.globals (record { items_are = e; metas_are = refl })).items_are in
    let decl = decl_kept h0 m0 h1 m1 kept c.args.decl.now c.requires.goal ∙ same in
    let f = c.in_err-fitted.field-0.0 in
    let l = c.take_turn.new.fuel in
    residual h2 m2 _ _ l c.from_residual.result f c.from_residual.ensures.1
    (subst (λ o. Shows h2 m2 o l f) (sym (c.loop-fitted.invariant.value Δ a d e is same)) (c.in_err-fitted.ensures.value Δ (plain_application m1 c.loop-fitted.here) d items refl decl))

pub returns-in-Fitted-clause-value : goal.returns-in-Fitted-clause-value
returns-in-Fitted-clause-value g c Δ a d e is same =
    let h0 = g.T.Terms.holds c.args.terms.now in
    let m0 = g.T.Terms.means c.args.terms.now in
    let h1 = g.T.Terms.holds c.loop-fitted.terms in
    let m1 = g.T.Terms.means c.loop-fitted.terms in
    let h2 = g.T.Terms.holds c.take_turn.new.terms in
    let m2 = g.T.Terms.means c.take_turn.new.terms in
    let kept = c.loop-fitted.invariant.kept in
    let items = (read_kept h0 m0 h1 m1 kept c.args.env.now c.args.start.metas Δ (plain_metas m0 c.args.start.metas) c.requires.globals (record { items_are = e; metas_are = refl })).items_are in
    let decl = decl_kept h0 m0 h1 m1 kept c.args.decl.now c.requires.goal ∙ same in
    let l = c.take_turn.new.fuel in
    let here = plain_application m1 c.loop-fitted.here in
    c.loop-fitted.invariant.value Δ a d e is same
    ∙ subst (λ x. IsTurn h2 m2 (apply (rules_env Δ) d) here c.loop-fitted.fuel l (Ok x)) c.in-Fitted.is (c.in_ok-fitted.ensures.value Δ here d items refl decl)

pub loop-fitted-preserved : goal.loop-fitted-preserved
loop-fitted-preserved g c =
    let h0 = g.T.Terms.holds c.args.terms.now in
    let m0 = g.T.Terms.means c.args.terms.now in
    let h1 = g.T.Terms.holds c.loop-fitted.terms in
    let m1 = g.T.Terms.means c.loop-fitted.terms in
    let h2 = g.T.Terms.holds c.take_turn.new.terms in
    let m2 = g.T.Terms.means c.take_turn.new.terms in
    let kept = c.loop-fitted.invariant.kept in
    let l = c.take_turn.new.fuel in
    let here = plain_application m1 c.loop-fitted.here in
    record {
      kept = keeps_both h0 m0 h1 m1 h2 m2 kept c.take_turn.ensures.kept;
      held = subst (λ x. IsApplicationIn h2 (application_of x)) c.in-Longer.is c.in_ok-fitted.ensures.held;
      value = λ Δ a d e is same.
          let items = (read_kept h0 m0 h1 m1 kept c.args.env.now c.args.start.metas Δ (plain_metas m0 c.args.start.metas) c.requires.globals (record { items_are = e; metas_are = refl })).items_are in
          let decl = decl_kept h0 m0 h1 m1 kept c.args.decl.now c.requires.goal ∙ same in
          let turn = subst (λ x. IsTurn h2 m2 (apply (rules_env Δ) d) here c.loop-fitted.fuel l (Ok x)) c.in-Longer.is (c.in_ok-fitted.ensures.value Δ here d items refl decl) in
          c.loop-fitted.invariant.value Δ a d e is same ∙ turn.0;
    }
