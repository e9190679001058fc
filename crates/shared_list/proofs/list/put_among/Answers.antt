use Rattle.std.proofs.Common.{ap, map, sym, ◌∙◌}
use Rattle.std.proofs.lemmas.Result.{IfErr-weaker}
use Rattle.std.specs.Arc.{arc_value}
use Rattle.shared_list.specs.Top.{nodes_in}
use Rattle.shared_list.proofs.list.put_among.Goals as goal

pub returns-in-Some-clause-kept : goal.returns-in-Some-clause-kept
returns-in-Some-clause-kept g c =
    IfErr-weaker c.put_in.result _ _ (λ e same. same ∙ ap (λ n. map arc_value (nodes_in n)) (sym c.in-Some.is)) c.put_in.ensures.kept
