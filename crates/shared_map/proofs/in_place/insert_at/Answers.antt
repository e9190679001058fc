use Rattle.std.proofs.Common.{ap, get_or}
use Rattle.std.proofs.lemmas.Result.{IfErr-weaker}
use Rattle.std.proofs.Math.Seq.{map-set_same}
use Rattle.std.specs.Arc.{arc_value}
use Rattle.shared_map.proofs.Parts.{tried_alone, found_alone}
use Rattle.shared_map.proofs.in_place.insert_at.Goals as goal

pub returns-clause-tried : goal.returns-clause-tried
returns-clause-tried g c =
    tried_alone g.K.Ord.cmp g.met.K.Ord.total c.args.key c.args.value (λ p. g.P.Part.entries (arc_value p)) c.args.parts.now c.args.at (get_or c.args.parts.now c.args.at c.index-parts-at.result) c.insert_alone.new.part
    c.requires.sorted c.requires.full c.requires.place (ap (get_or c.args.parts.now c.args.at) c.index-parts-at.is) c.insert_alone.result c.insert_alone.ensures.tried

pub returns-clause-found : goal.returns-clause-found
returns-clause-found g c =
    found_alone g.K.Ord.cmp g.met.K.Ord.total c.args.key c.args.value (λ p. g.P.Part.entries (arc_value p)) c.args.parts.now c.args.at (get_or c.args.parts.now c.args.at c.index-parts-at.result) c.insert_alone.new.part
    c.requires.sorted c.requires.full c.requires.place (ap (get_or c.args.parts.now c.args.at) c.index-parts-at.is) c.insert_alone.result c.insert_alone.ensures.found

pub returns-clause-kept : goal.returns-clause-kept
returns-clause-kept g c =
    IfErr-weaker c.insert_alone.result _ _ (λ e same. map-set_same (λ p. g.P.Part.entries (arc_value p)) c.args.parts.now c.args.at c.insert_alone.new.part c.index-parts-at.result same) c.insert_alone.ensures.kept
