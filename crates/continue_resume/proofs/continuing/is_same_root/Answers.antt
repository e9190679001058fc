use Rattle.goal_state.specs.StoredState.{plain_state}
use Rattle.continue_resume.proofs.Reading.{items_as, same_both, items_differ}
use Rattle.continue_resume.proofs.continuing.is_same_root.Goals as goal

pub returns-then-same_environments : goal.returns-then-same_environments
returns-then-same_environments g c =
    let means = g.T.Terms.means in
    let s = c.args.target.now in
    let t = c.args.branch.now in
    same_both (plain_state means s) (plain_state means t) c.same_environments.result c.same_theorem.result
    (items_as means c.same_environments.result s.terms c.terms-left.result.now t.terms c.terms-right.result.now s.items c.env.result.now t.items c.env-2.result.now
    c.terms-left.ensures.value c.terms-right.ensures.value c.env.ensures c.env-2.ensures c.same_environments.ensures)
    c.same_theorem.ensures c.if-same_environments.true

pub returns-else-same_environments : goal.returns-else-same_environments
returns-else-same_environments g c =
    let means = g.T.Terms.means in
    let s = c.args.target.now in
    let t = c.args.branch.now in
    items_differ (plain_state means s) (plain_state means t) c.same_environments.result
    (items_as means c.same_environments.result s.terms c.terms-left.result.now t.terms c.terms-right.result.now s.items c.env.result.now t.items c.env-2.result.now
    c.terms-left.ensures.value c.terms-right.ensures.value c.env.ensures c.env-2.ensures c.same_environments.ensures)
    c.if-same_environments.false
