use Rattle.std.proofs.Common.{ap}
use Rattle.unification.specs.Refusals as unification
use Rattle.unification.specs.Steps.{ran}
use Rattle.elaboration.specs.Refusals.{Unify}
use Rattle.elaborate.specs.Faults.{halt_fault}
use Rattle.elaborate.proofs.Follow.{residual, halt_shows}
use Rattle.pattern_unify.proofs.Meanings.{read_reach}
use Rattle.elaborate.proofs.meeting.reduced.Goals as goal

pub returns-in_err-whnf-clause-value : goal.returns-in_err-whnf-clause-value
returns-in_err-whnf-clause-value g c Δ w t r e =
    let h = g.T.Terms.holds c.whnf.new.terms in
    let m = g.T.Terms.means c.whnf.new.terms in
    let env = read_reach (g.T.Terms.means c.args.terms.now) c.args.env.now c.args.metas.now Δ w.metas r in
    residual h m _ _ _ c.from_residual.result (halt_fault c.in_err-whnf.field-0.0) c.from_residual.ensures.1
    (rw (← env, ← e) (halt_shows h m m _ _ _ c.in_err-whnf.field-0.0 c.in_err-whnf.ensures.value))

pub returns-clause-value : goal.returns-clause-value
returns-clause-value g c Δ w t r e =
    let env = read_reach (g.T.Terms.means c.args.terms.now) c.args.env.now c.args.metas.now Δ w.metas r in
    rw (← env, ← e) (ap (ran (λ r. Unify (unification.Kernel r))) c.in_ok-whnf.ensures.value)
