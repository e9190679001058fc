use Rattle.std.proofs.Common.{◌∙◌, ap}
use Rattle.conversion.specs.Globals.{context_of}
use Rattle.book_reader.specs.Faults.{kernel_fault}
use Rattle.book_reader.proofs.Follow.{residual, kernel_shows, kernel_gave}
use Rattle.book_reader.proofs.Meanings.{read_env, read_ctx}
use Rattle.book_reader.proofs.items.find_type.Goals as goal

pub returns-in_err-infer-clause-value : goal.returns-in_err-infer-clause-value
returns-in_err-infer-clause-value g c Δ Γ t r e =
    let h = g.T.Terms.holds c.infer.new.terms in
    let m = g.T.Terms.means c.infer.new.terms in
    let m0 = g.T.Terms.means c.args.terms.now in
    let env = read_env m0 c.args.env.now c.args.params.now Δ Γ r in
    let ctx = ap (context_of m0) c.as_slice.ensures.value ∙ read_ctx m0 c.args.env.now c.args.params.now Δ Γ r in
    residual h m _ _ _ c.from_residual.result (kernel_fault c.in_err-infer.field-0.0) c.from_residual.ensures.1
    (rw (← env, ← ctx, ← e) (kernel_shows h m _ _ c.in_err-infer.field-0.0 c.in_err-infer.ensures.value))

pub returns-clause-value : goal.returns-clause-value
returns-clause-value g c Δ Γ t r e =
    let m0 = g.T.Terms.means c.args.terms.now in
    let env = read_env m0 c.args.env.now c.args.params.now Δ Γ r in
    let ctx = ap (context_of m0) c.as_slice.ensures.value ∙ read_ctx m0 c.args.env.now c.args.params.now Δ Γ r in
    rw (← env, ← ctx, ← e) (kernel_gave _ _ _ c.in_ok-infer.ensures.value)
