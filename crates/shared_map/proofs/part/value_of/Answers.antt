use Rattle.std.proofs.Common.{sym, ◌∙◌, ap, map}
use Rattle.std.proofs.lemmas.List.{length-map}
use Rattle.std.specs.Arc.{arc_value}
use Rattle.std.specs.FinMap.{find}
use Rattle.shared_map.proofs.Parts.{find_place, value_at}
use Rattle.shared_map.proofs.part.value_of.Goals as goal

pub returns : goal.returns
returns g c =
    c.get.ensures ∙ ap (find g.K.Ord.cmp c.args.key.now) (ap g.P.Part.entries c.deref.ensures ∙ sym (value_at (λ p. g.P.Part.entries (arc_value p)) c.args.parts.now c.place_of-at.result c.index-parts-at.result (rw length-map at c.place_of-at.ensures.within) c.index-parts-at.is))
    ∙ sym (find_place g.K.Ord.cmp g.met.K.Ord.total c.args.key.now (map (λ p. g.P.Part.entries (arc_value p)) c.args.parts.now) c.place_of-at.result c.requires.sorted c.requires.full c.place_of-at.ensures)
