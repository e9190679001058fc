use Rattle.std.proofs.Common.{sym, ◌∙◌, ap, map, get_or, [], ◌≡◌}
use Rattle.std.proofs.lemmas.List.{length-map}
use Rattle.std.specs.Arc.{arc_value}
use Rattle.shared_map.specs.Grown.{parts_of}
use Rattle.shared_map.proofs.Parts.{put_place, value_at, map_of_parts, found_here}
use Rattle.shared_map.proofs.in_place.renew_at.Goals as goal

pub returns-clause-changed : goal.returns-clause-changed
returns-clause-changed g c =
    let lists = map (λ p. g.P.Part.entries (arc_value p)) c.args.parts.now.items in
    let e : get_or lists c.args.at [] ≡ g.P.Part.entries c.deref.result.now =
    value_at (λ p. g.P.Part.entries (arc_value p)) c.args.parts.now.items c.args.at c.index.result.now (rw length-map at c.requires.place.within) c.index.ensures ∙ ap g.P.Part.entries (sym c.deref.ensures) in
    put_place g.K.Ord.cmp g.met.K.Ord.total c.args.key lists c.args.at c.requires.sorted c.requires.full c.requires.place c.args.value
    (map g.P.Part.entries (parts_of c.in_ok-grown.grown)) (map (λ p. g.P.Part.entries (arc_value p)) c.replace_at.new.parts.items) (rw e c.in_ok-grown.ensures.parts)
    (map_of_parts g.P.Part.entries arc_value c.args.parts.now.items c.args.at (parts_of c.in_ok-grown.grown) c.replace_at.new.parts.items c.in_ok-replace_at.ensures.parts)

pub returns-clause-found : goal.returns-clause-found
returns-clause-found g c =
    found_here g.K.Ord.cmp g.met.K.Ord.total c.args.key c.args.value (λ p. g.P.Part.entries (arc_value p)) c.args.parts.now.items c.args.at c.index.result.now c.index.result.now
    c.requires.sorted c.requires.full c.requires.place c.index.ensures c.in_ok-grown.found (rw c.deref.ensures at c.in_ok-grown.ensures.found)
