use Rattle.std.proofs.Common.{List, ap, ◌∙◌, subst}
use Rattle.ld_trees.specs.Term.{Term}
use Rattle.ld_terms.specs.declared.globals.Item.{Item}
use Rattle.goal_state.specs.State.{State, plain_metas}
use Rattle.goal_state.specs.StoredState.{IsKeptState}
use Rattle.goal_state.proofs.Following.{next_items, next_kept}
use Rattle.goal_state.proofs.state.GoalState.next_state.Goals as goal

pub invariant_of-result : goal.invariant_of-result
invariant_of-result g c =
    let holds = g.T.Terms.holds in
    let means = g.T.Terms.means in
    let ok = subst (IsKeptState holds means) c.self.view_is c.self.invariant in
    let same = c.in_ok-env.ensures ∙ ap (λ s. s.items) c.self.view_is in
    next_kept holds means c.args.self.now c.args.terms c.in_ok-env.env c.args.metas c.args.goals ok c.requires.kept same c.requires.held c.next-next.ensures.facts c.next-next.ensures.few c.requires.follows

pub returns-clause-plain : goal.returns-clause-plain
returns-clause-plain g c =
    let holds = g.T.Terms.holds in
    let means = g.T.Terms.means in
    let ok = subst (IsKeptState holds means) c.self.view_is c.self.invariant in
    let same = c.in_ok-env.ensures ∙ ap (λ s. s.items) c.self.view_is in
    ap (λ (is : List (Item Term)). let s : State = record { items = is; metas = plain_metas (means c.args.terms) c.args.metas; goals = c.args.goals } in s)
    (next_items holds means c.args.self.now c.args.terms c.in_ok-env.env c.args.metas c.args.goals ok c.requires.kept same)
