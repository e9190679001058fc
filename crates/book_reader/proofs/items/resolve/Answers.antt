use Rattle.std.proofs.Common.{◌∙◌, ap}
use Rattle.book_reader.specs.Items.{scoped}
use Rattle.book_reader.specs.Faults.{scope_fault}
use Rattle.book_reader.proofs.Follow.{residual, scope_shows}
use Rattle.book_reader.proofs.Meanings.{read_arities, read_names}
use Rattle.book_reader.proofs.items.resolve.Goals as goal

pub returns-in_err-scope_term-clause-value : goal.returns-in_err-scope_term-clause-value
returns-in_err-scope_term-clause-value g c Δ Γ n r =
    let h = g.T.Terms.holds c.scope_term.new.terms in
    let m = g.T.Terms.means c.scope_term.new.terms in
    let m0 = g.T.Terms.means c.args.terms.now in
    let arities = read_arities m0 c.args.env.now c.args.params.now Δ Γ r in
    let names = c.names.ensures ∙ read_names m0 c.args.env.now c.args.params.now Δ Γ r in
    residual h m _ _ _ c.from_residual.result (scope_fault c.in_err-scope_term.field-0.0) c.from_residual.ensures.1
    (rw (← arities, ← names) (scope_shows h m _ n c.in_err-scope_term.field-0.0 c.in_err-scope_term.ensures.exact))

pub returns-clause-value : goal.returns-clause-value
returns-clause-value g c Δ Γ n r =
    let m0 = g.T.Terms.means c.args.terms.now in
    let arities = read_arities m0 c.args.env.now c.args.params.now Δ Γ r in
    let names = c.names.ensures ∙ read_names m0 c.args.env.now c.args.params.now Δ Γ r in
    rw (← arities, ← names) (ap (λ o. scoped o n) c.in_ok-scope_term.ensures.exact.1)
