use Rattle.std.proofs.Common.{◌≡◌, ◌++◌, drop}
use Rattle.conversion.specs.Spines.{back_pairs}
use Rattle.conversion.proofs.pairs.pair_arguments.Given as goal

abbrev pub invariant-loop-i : goal.invariant-loop-i
invariant-loop-i g l = l.pairs.items ≡ l.fn.pairs.items ++ back_pairs (drop l.i l.us) (drop l.i l.vs)
