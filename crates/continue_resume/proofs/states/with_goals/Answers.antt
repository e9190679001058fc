use Rattle.std.proofs.Common.{◌∙◌, subst}
use Rattle.std.proofs.lemmas.Result.{IfOk-weaker}
use Rattle.ld_terms.specs.Views.{Keeps}
use Rattle.continue_resume.proofs.Legal.{fork_follows, fork_is}
use Rattle.continue_resume.proofs.states.with_goals.Goals as goal

pub next_state-requires-clause-follows : goal.next_state-requires-clause-follows
next_state-requires-clause-follows g c =
    let holds = g.T.Terms.holds in
    let means = g.T.Terms.means in
    let s = c.args.state.now in
    let fork = c.in_ok-terms.terms in
    let kept = subst (λ t. Keeps (holds t) (means t) (holds fork) (means fork)) c.terms.ensures.value c.in_ok-terms.ensures in
    fork_follows holds means s fork c.in_ok-metas.metas c.args.goals c.terms.ensures.legal kept (c.in_ok-metas.ensures ∙ c.metas.ensures) c.requires.active c.requires.once

pub returns : goal.returns
returns g c =
    let holds = g.T.Terms.holds in
    let means = g.T.Terms.means in
    let s = c.args.state.now in
    let fork = c.in_ok-terms.terms in
    let kept = subst (λ t. Keeps (holds t) (means t) (holds fork) (means fork)) c.terms.ensures.value c.in_ok-terms.ensures in
    IfOk-weaker c.next_state.result _ _
    (λ r e. fork_is holds means s fork c.in_ok-metas.metas c.args.goals c.terms.ensures.legal kept (c.in_ok-metas.ensures ∙ c.metas.ensures) _ e)
    c.next_state.ensures.plain
