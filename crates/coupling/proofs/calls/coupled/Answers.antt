use Rattle.std.proofs.Common.{◌∙◌}
use Rattle.std.proofs.lemmas.Result.{IfOk-weaker}
use Rattle.coupling.proofs.Stored.{coupled_again}
use Rattle.coupling.proofs.calls.coupled.Goals as goal

pub returns : goal.returns
returns g c =
    IfOk-weaker c.coupled_numbers.result _ _
    (λ r e. e ∙ coupled_again g.T.Terms.means c.args.state.now.terms c.terms-terms.result.now c.args.state.now.metas c.metas-metas.result.now c.terms-terms.ensures.value c.metas-metas.ensures c.args.g)
    c.coupled_numbers.ensures
