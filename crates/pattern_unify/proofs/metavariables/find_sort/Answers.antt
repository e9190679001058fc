use Rattle.pattern_unify.specs.Faults.{kernel_fault}
use Rattle.pattern_unify.proofs.Follow.{residual, sorted_shows, sorted_gave}
use Rattle.pattern_unify.proofs.Meanings.{read_reach, read_ctx}
use Rattle.pattern_unify.proofs.metavariables.find_sort.Goals as goal

pub returns-in_err-infer_sort-clause-value : goal.returns-in_err-infer_sort-clause-value
returns-in_err-infer_sort-clause-value g c Δ Σ Γ t r e f =
    let h = g.T.Terms.holds c.infer_sort.new.terms in
    let m = g.T.Terms.means c.infer_sort.new.terms in
    let m0 = g.T.Terms.means c.args.terms.now in
    let env = read_reach m0 c.args.env.now c.args.metas.now Δ Σ r in
    let ctx = read_ctx m0 c.args.ctx.now Γ e in
    residual h m _ _ _ c.from_residual.result (kernel_fault c.in_err-infer_sort.field-0.0) c.from_residual.ensures.1
    (rw (← env, ← ctx, ← f) (sorted_shows h m _ _ c.in_err-infer_sort.field-0.0 c.in_err-infer_sort.ensures.value))

pub returns-clause-value : goal.returns-clause-value
returns-clause-value g c Δ Σ Γ t r e f =
    let m0 = g.T.Terms.means c.args.terms.now in
    let env = read_reach m0 c.args.env.now c.args.metas.now Δ Σ r in
    let ctx = read_ctx m0 c.args.ctx.now Γ e in
    rw (← env, ← ctx, ← f) (sorted_gave _ _ _ c.in_ok-infer_sort.ensures.value)
