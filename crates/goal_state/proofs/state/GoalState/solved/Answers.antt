use Rattle.std.proofs.Common.{ap, sym, ◌∙◌}
use Rattle.goal_state.specs.State.{open_goals}
use Rattle.goal_state.specs.StoredState.{plain_state}
use Rattle.goal_state.proofs.Following.{open_goals_again}
use Rattle.goal_state.proofs.state.GoalState.solved.Goals as goal

pub returns : goal.returns
returns g c =
    let means = g.T.Terms.means in
    let i = c.self.inside in
    let again = open_goals_again means (record { terms = i.terms; items = i.env; metas = i.metas; goals = i.goals }) ∙ ap (λ s. open_goals (plain_state means s)) c.self.view_is in
    (λ t. sym again ∙ c.are_assigned.ensures.0 t, λ e. c.are_assigned.ensures.1 (again ∙ e))
