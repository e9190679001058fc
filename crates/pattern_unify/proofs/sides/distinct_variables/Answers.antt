use Rattle.std.proofs.Common.{Some, None, subst, arith}
use Rattle.pattern_unify.specs.Walks.{variables_of, IsNewVariable}
use Rattle.pattern_unify.proofs.Distinct.{distinct_more, not_distinct}
use Rattle.pattern_unify.proofs.sides.distinct_variables.Goals as goal

pub returns-in-None : goal.returns-in-None
returns-in-None g c =
    let means = g.T.Terms.means c.args.terms.now in
    not_distinct means c.args.us.now c.loop-u.u-index c.u-item.result (omega arith) c.u-item.is c.loop-u.variables.items c.loop-u.invariant
    (subst (λ vs. IsNewVariable (variables_of vs) (means c.u-item.result) None) c.deref.ensures.value c.in-None.ensures)

pub loop-u-preserved : goal.loop-u-preserved
loop-u-preserved g c =
    let means = g.T.Terms.means c.args.terms.now in
    distinct_more means c.args.us.now c.loop-u.u-index c.u-item.result (omega arith) c.u-item.is c.loop-u.variables.items c.loop-u.invariant c.in-Some.i c.push.new.self.items c.in_ok-push-in-Some.ensures.items
    (subst (λ vs. IsNewVariable (variables_of vs) (means c.u-item.result) (Some c.in-Some.i)) c.deref.ensures.value c.in-Some.ensures)
