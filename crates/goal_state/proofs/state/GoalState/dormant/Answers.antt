use Rattle.std.proofs.Common.{ap, ◌∙◌, length, ◌&&◌, not}
use Rattle.std.proofs.lemmas.Result.{IfOk-weaker}
use Rattle.meta_trees.specs.Dependencies.{below}
use Rattle.meta_laws.specs.Cut.{listed}
use Rattle.goal_state.specs.State.{is_open, dormant}
use Rattle.goal_state.specs.StoredState.{plain_state}
use Rattle.goal_state.proofs.Following.{dormant_again}
use Rattle.goal_state.proofs.state.GoalState.dormant.Goals as goal

pub returns : goal.returns
returns g c =
    let means = g.T.Terms.means in
    let i = c.self.inside in
    let again = dormant_again means (record { terms = i.terms; items = i.env; metas = i.metas; goals = i.goals }) ∙ ap (λ s. dormant (plain_state means s)) c.self.view_is in
    let listing = ap (λ goals. below (λ m. is_open i.metas m && not (listed m goals)) (length i.metas)) c.as_slice.ensures in
    IfOk-weaker c.other_numbers.result _ _ (λ ms e. e ∙ listing ∙ again) c.other_numbers.ensures
