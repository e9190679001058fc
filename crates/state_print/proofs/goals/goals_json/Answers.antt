use Rattle.std.proofs.Common.{subst}
use Rattle.ld_terms.specs.Views.{Keeps}
use Rattle.state_print.proofs.goals.goals_json.Goals as goal

pub goal_texts-requires : goal.goal_texts-requires
goal_texts-requires g c =
    let holds = g.T.Terms.holds in
    let means = g.T.Terms.means in
    let t = c.in_ok-terms.terms in
    subst (λ x. Keeps (holds x) (means x) (holds t) (means t)) c.terms.ensures.value c.in_ok-terms.ensures
