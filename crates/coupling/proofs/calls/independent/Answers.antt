use Rattle.std.proofs.Common.{sym, ◌∙◌}
use Rattle.coupling.proofs.Stored.{coupled_again}
use Rattle.coupling.proofs.calls.independent.Goals as goal

pub returns : goal.returns
returns g c =
    let again = coupled_again g.T.Terms.means c.args.state.now.terms c.terms-terms.result.now c.args.state.now.metas c.metas-metas.result.now c.terms-terms.ensures.value c.metas-metas.ensures c.args.g in
    (λ t. sym again ∙ c.stands_alone.ensures.0 t, λ e. c.stands_alone.ensures.1 (again ∙ e))
