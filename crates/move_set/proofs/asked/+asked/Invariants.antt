use Rattle.std.proofs.Common.{◌≡◌, drop, map}
use Rattle.move_set.specs.Asked.{first_of, first_asked}
use Rattle.move_set.proofs.asked.+asked.Given as goal

abbrev pub invariant-first_asked_in-loop-u : goal.invariant-first_asked_in-loop-u
invariant-first_asked_in-loop-u l = first_of (map first_asked l.us) ≡ first_of (map first_asked (drop l.u-index l.us))
