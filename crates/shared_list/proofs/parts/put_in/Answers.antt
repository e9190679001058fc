use Rattle.std.proofs.Common.{map}
use Rattle.std.specs.Arc.{arc_value}
use Rattle.std.proofs.lemmas.List.{length-map}
use Rattle.std.proofs.lemmas.Result.{on_ok_weaker}
use Rattle.shared_list.proofs.Filled.{cut_at, put_whole, filled_after}
use Rattle.shared_list.proofs.parts.put_in.Goals as goal

pub end_at-requires-clause-place : goal.end_at-requires-clause-place
end_at-requires-clause-place g c =
    rw length-map at (cut_at g.row.WIDTH c.args.at (map (λ p. g.P.Part.items (arc_value p)) c.args.parts.now.items) c.requires.wide c.requires.filled c.requires.within).place

pub end_at-requires-clause-rest : goal.end_at-requires-clause-rest
end_at-requires-clause-rest g c =
    (cut_at g.row.WIDTH c.args.at (map (λ p. g.P.Part.items (arc_value p)) c.args.parts.now.items) c.requires.wide c.requires.filled c.requires.within).rest

pub returns-clause-put : goal.returns-clause-put
returns-clause-put g c =
    on_ok_weaker c.end_at.result
    (put_whole g.row.WIDTH c.args.at (map (λ p. g.P.Part.items (arc_value p)) c.args.parts.now.items) c.requires.wide c.requires.filled c.args.item (map (λ p. g.P.Part.items (arc_value p)) c.end_at.new.parts.items))
    c.end_at.ensures.put

pub returns-clause-filled : goal.returns-clause-filled
returns-clause-filled g c =
    filled_after g.row.WIDTH c.args.at (map (λ p. g.P.Part.items (arc_value p)) c.args.parts.now.items) c.requires.wide c.requires.filled c.args.item (map (λ p. g.P.Part.items (arc_value p)) c.end_at.new.parts.items)
    c.end_at.result c.requires.within c.end_at.ensures.put c.end_at.ensures.kept
