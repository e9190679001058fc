use Rattle.std.proofs.Common.{◌≡◌, drop}
use Rattle.move_set.specs.Moves.{first_open}
use Rattle.move_set.proofs.next.first_open.Given as goal

abbrev pub invariant-loop-hole : goal.invariant-loop-hole
invariant-loop-hole g l = first_open l.metas l.holes ≡ first_open l.metas (drop l.hole-index l.holes)
