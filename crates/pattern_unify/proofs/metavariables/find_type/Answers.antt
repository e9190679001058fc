use Rattle.std.proofs.Common.{ap}
use Rattle.unification.specs.Refusals.{Kernel}
use Rattle.unification.specs.Steps.{ran}
use Rattle.pattern_unify.specs.Faults.{kernel_fault}
use Rattle.pattern_unify.proofs.Follow.{residual, kernel_shows}
use Rattle.pattern_unify.proofs.Meanings.{read_reach, read_ctx}
use Rattle.pattern_unify.proofs.metavariables.find_type.Goals as goal

pub returns-in_err-infer-clause-value : goal.returns-in_err-infer-clause-value
returns-in_err-infer-clause-value g c Δ Σ Γ t r e f =
    let h = g.T.Terms.holds c.infer.new.terms in
    let m = g.T.Terms.means c.infer.new.terms in
    let m0 = g.T.Terms.means c.args.terms.now in
    let env = read_reach m0 c.args.env.now c.args.metas.now Δ Σ r in
    let ctx = read_ctx m0 c.args.ctx.now Γ e in
    residual h m _ _ _ c.from_residual.result (kernel_fault c.in_err-infer.field-0.0) c.from_residual.ensures.1
    (rw (← env, ← ctx, ← f) (kernel_shows h m _ _ c.in_err-infer.field-0.0 c.in_err-infer.ensures.value))

pub returns-clause-value : goal.returns-clause-value
returns-clause-value g c Δ Σ Γ t r e f =
    let m0 = g.T.Terms.means c.args.terms.now in
    let env = read_reach m0 c.args.env.now c.args.metas.now Δ Σ r in
    let ctx = read_ctx m0 c.args.ctx.now Γ e in
    rw (← env, ← ctx, ← f) (ap (ran Kernel) c.in_ok-infer.ensures.value)
