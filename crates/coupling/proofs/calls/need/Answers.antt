use Rattle.std.proofs.Common.{◌∙◌}
use Rattle.std.proofs.lemmas.Result.{IfOk-weaker}
use Rattle.coupling.proofs.Stored.{needs_again}
use Rattle.coupling.proofs.calls.need.Goals as goal

pub returns : goal.returns
returns g c =
    IfOk-weaker c.marked_numbers.result _ _
    (λ r e. e ∙ needs_again g.T.Terms.means c.args.state.now.terms c.terms-terms.result.now c.args.state.now.metas c.metas-metas.result.now c.terms-terms.ensures.value c.metas-metas.ensures c.args.g
    c.in_ok-marks.marks.items c.deref.result.now c.in_ok-marks.ensures.sized c.in_ok-marks.ensures.reached c.deref.ensures.value)
    c.marked_numbers.ensures
