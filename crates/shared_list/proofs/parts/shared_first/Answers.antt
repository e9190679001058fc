use Rattle.std.proofs.Common.{arith}
use Rattle.std.proofs.lemmas.Result.{IfOk-weaker}
use Rattle.std.specs.Arc.{arc_value}
use Rattle.shared_list.proofs.Cut.{first_of}
use Rattle.shared_list.proofs.parts.shared_first.Goals as goal

pub returns : goal.returns
returns g c =
    IfOk-weaker c.shared.result _ _ (λ v e. first_of arc_value c.args.parts.now _ _ c.args.count e (omega (arith, c.min.ensures))) c.shared.ensures
