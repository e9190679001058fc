use Rattle.std.proofs.Common.{map, ap, ◌∙◌, cond}
use Rattle.std.specs.Arc.{arc_value}
use Rattle.shared_map.specs.Top.{nodes_in}
use Rattle.shared_map.proofs.Parts.{map_put}
use Rattle.shared_map.proofs.map.SharedMap.insert.Goals as goal

pub invariant_of-self-2 : goal.invariant_of-self-2
invariant_of-self-2 g c =
    map_put g.K.Ord.cmp g.met.K.Ord.total c.args.key c.args.value (map arc_value (nodes_in c.self.inside.nodes)) (map arc_value (nodes_in c.insert_among.new.nodes)) c.self.inside.count c.count_after-self-inside.result c.in_ok-found.found
    c.self.invariant c.in_ok-found.ensures.changed c.in_ok-found.ensures.found (c.count_after-self-inside.ensures ∙ ap (cond c.in_ok-found.found c.self.inside.count) c.in_ok-more.ensures)
