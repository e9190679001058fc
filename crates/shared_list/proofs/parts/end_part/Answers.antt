use Rattle.std.proofs.lemmas.Result.{IfErr-weaker, on_ok_weaker}
use Rattle.std.specs.Arc.{arc_value}
use Rattle.shared_list.proofs.Filled.{set_part, same_part}
use Rattle.shared_list.proofs.parts.end_part.Goals as goal

pub returns-clause-put : goal.returns-clause-put
returns-clause-put g c =
    on_ok_weaker c.end_within.result
    (set_part (λ p. g.P.Part.items (arc_value p)) c.args.parts.now.items c.args.place c.args.rest c.index_mut.result.now c.end_within.new.part c.args.item c.requires.place c.index_mut.ensures.value)
    c.end_within.ensures.put

pub returns-clause-kept : goal.returns-clause-kept
returns-clause-kept g c =
    IfErr-weaker c.end_within.result _ _
    (λ e. same_part (λ p. g.P.Part.items (arc_value p)) c.args.parts.now.items c.args.place c.index_mut.result.now c.end_within.new.part c.index_mut.ensures.value)
    c.end_within.ensures.kept
