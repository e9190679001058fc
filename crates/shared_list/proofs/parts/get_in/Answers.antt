use Rattle.std.proofs.Common.{sym, ◌∙◌, ap, map, ◌%◌}
use Rattle.std.specs.Prelude.{slice_get}
use Rattle.std.specs.Arc.{arc_value}
use Rattle.std.proofs.lemmas.List.{length-map}
use Rattle.shared_list.proofs.Filled.{get_at, get_behind, value_at}
use Rattle.shared_list.proofs.parts.get_in.Goals as goal

pub returns-then-place-parts : goal.returns-then-place-parts
returns-then-place-parts g c =
    get_behind g.row.WIDTH c.args.at (map (λ p. g.P.Part.items (arc_value p)) c.args.parts.now) c.requires.wide c.requires.filled (rw length-map c.if-place-parts.true)

pub returns : goal.returns
returns g c =
    c.get.ensures ∙ ap (λ l. slice_get l (c.args.at % g.row.WIDTH)) (ap g.P.Part.items c.deref.ensures ∙ sym (value_at (λ p. g.P.Part.items (arc_value p)) c.args.parts.now _ c.index-parts-place.result c.if-place-parts.false c.index-parts-place.is))
    ∙ sym (get_at g.row.WIDTH c.args.at (map (λ p. g.P.Part.items (arc_value p)) c.args.parts.now) c.requires.wide c.requires.filled)
