use Rattle.std.proofs.Common.{◌≡◌, drop}
use Rattle.meta_laws.specs.Cut.{listed}
use Rattle.state_print.proofs.couplings.lists.Given as goal

abbrev pub invariant-loop-n : goal.invariant-loop-n
invariant-loop-n l = listed l.m l.numbers ≡ listed l.m (drop l.n-index l.numbers)
