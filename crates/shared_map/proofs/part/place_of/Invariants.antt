use Rattle.std.proofs.Common.{◌-◌, map}
use Rattle.std.specs.Arc.{arc_value}
use Rattle.shared_map.specs.Search.{IsBetween, cmp_first}
use Rattle.shared_map.proofs.part.place_of.Given as goal

abbrev pub invariant-loop-high : goal.invariant-loop-high
invariant-loop-high g l = IsBetween (cmp_first g.K.Ord.cmp l.key) (map (λ p. g.P.Part.entries (arc_value p)) l.parts) l.low l.high

abbrev pub decreases-loop-high : goal.decreases-loop-high
decreases-loop-high g l = l.high - l.low
