use Rattle.std.proofs.Common.{◌∙◌, ap, sym, subst}
use Rattle.ld_terms.proofs.Turns.{keeps_both}
use Rattle.meta_context.specs.Stored.{metas_of}
use Rattle.goal_state.specs.State.{root_value}
use Rattle.goal_state.specs.StoredState.{plain_state, IsKeptState}
use Rattle.goal_state.specs.Laws.{IsProof}
use Rattle.goal_state.proofs.Means.{metas_kept}
use Rattle.goal_state.proofs.Rooted.{root_unfolded, solved_is_proved}
use Rattle.goal_state.proofs.state.GoalState.value_of_root.Goals as goal

pub returns-clause-value : goal.returns-clause-value
returns-clause-value g c =
    let holds = g.T.Terms.holds in
    let means = g.T.Terms.means in
    let i = c.self.inside in
    let one = c.in_ok-terms.terms in
    let two = c.make.new.self in
    let kept = keeps_both (holds i.terms) (means i.terms) (holds one) (means one) (holds two) (means two) c.in_ok-terms.ensures c.in_ok-root.ensures.kept in
    let same = metas_kept (holds i.terms) (means i.terms) (holds two) (means two) kept i.metas c.self.invariant.held.metas_held in
    root_unfolded means (record { terms = i.terms; items = i.env; metas = i.metas; goals = i.goals }) (metas_of (means two) i.metas) (means two c.in_ok-root.root) _ same c.in_ok-root.ensures.tree c.in_ok-value.ensures.tree
    ∙ ap (λ s. root_value (plain_state means s)) c.self.view_is

pub returns-clause-proved : goal.returns-clause-proved
returns-clause-proved g c =
    let means = g.T.Terms.means in
    let s = c.args.self.now in
    let ok = subst (IsKeptState g.T.Terms.holds means) c.self.view_is c.self.invariant in
    subst (IsProof (plain_state means s)) (sym (returns-clause-value g c)) (solved_is_proved (plain_state means s) ok.legal c.requires)
