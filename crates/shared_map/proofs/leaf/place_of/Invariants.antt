use Rattle.std.proofs.Common.{◌-◌}
use Rattle.shared_map.specs.Search.{IsBetween}
use Rattle.shared_map.proofs.leaf.place_of.Given as goal

abbrev pub invariant-loop-high : goal.invariant-loop-high
invariant-loop-high g l = IsBetween (λ e. g.K.Ord.cmp l.key e.0) l.entries l.low l.high

abbrev pub decreases-loop-high : goal.decreases-loop-high
decreases-loop-high g l = l.high - l.low
