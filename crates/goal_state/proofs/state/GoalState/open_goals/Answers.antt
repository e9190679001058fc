use Rattle.std.proofs.Common.{ap, ◌∙◌}
use Rattle.std.proofs.lemmas.Result.{IfOk-weaker}
use Rattle.goal_state.specs.State.{open_goals}
use Rattle.goal_state.specs.StoredState.{plain_state}
use Rattle.goal_state.proofs.Following.{open_goals_again}
use Rattle.goal_state.proofs.state.GoalState.open_goals.Goals as goal

pub returns : goal.returns
returns g c =
    let means = g.T.Terms.means in
    let i = c.self.inside in
    let again = open_goals_again means (record { terms = i.terms; items = i.env; metas = i.metas; goals = i.goals }) ∙ ap (λ s. open_goals (plain_state means s)) c.self.view_is in
    IfOk-weaker c.open_numbers.result _ _ (λ ms e. e ∙ again) c.open_numbers.ensures
