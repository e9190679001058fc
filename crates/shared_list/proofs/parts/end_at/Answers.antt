use Rattle.std.proofs.Common.{◌∙◌, ap, arith, map}
use Rattle.std.specs.Arc.{arc_value}
use Rattle.std.proofs.lemmas.List.{length-map}
use Rattle.std.proofs.lemmas.Result.{on_ok_weaker}
use Rattle.shared_list.proofs.Filled.{new_part, changed_part, there}
use Rattle.shared_list.proofs.parts.end_at.Goals as goal

pub returns-then-rest-eq0-clause-put : goal.returns-then-rest-eq0-clause-put
returns-then-rest-eq0-clause-put g c =
    on_ok_weaker c.end_with.result
    (new_part (λ p. g.P.Part.items (arc_value p)) c.args.parts.now.items c.end_with.new.list.items c.args.place c.args.rest c.in_ok-part.part c.args.item c.if-rest-eq0.true (ap g.P.Part.items c.in_ok-part.ensures.ok ∙ c.in_ok-one.ensures))
    c.end_with.ensures.put

pub end_part-requires-clause-place : goal.end_part-requires-clause-place
end_part-requires-clause-place g c =
    rw length-map at (there (map (λ p. g.P.Part.items (arc_value p)) c.args.parts.now.items) c.args.place c.args.rest c.requires.rest (omega arith))

pub returns-clause-put : goal.returns-clause-put
returns-clause-put g c =
    changed_part (λ p. g.P.Part.items (arc_value p)) c.args.parts.now.items c.end_part.new.parts.items c.truncate.new.self.items c.args.place _
    (rw length-map at (there (map (λ p. g.P.Part.items (arc_value p)) c.args.parts.now.items) c.args.place c.args.rest c.requires.rest (omega arith)))
    c.in_ok-end_part.ensures.put c.truncate.ensures.items
