use Rattle.std.proofs.Common.{◌≡◌, drop}
use Rattle.coupling.specs.Coupling.{meet}
use Rattle.state_print.proofs.couplings.meet.Given as goal

abbrev pub invariant-loop-m : goal.invariant-loop-m
invariant-loop-m l = meet l.one l.other ≡ meet (drop l.m-index l.one) l.other
