use Rattle.std.proofs.Common.{◌≡◌, ◌++◌, drop}
use Rattle.pattern_unify.specs.Pairs.{back_pairs}
use Rattle.pattern_unify.proofs.pairs.pair_arguments.Given as goal

abbrev pub invariant-loop-i : goal.invariant-loop-i
invariant-loop-i g l = l.pairs.items ≡ l.fn.pairs.items ++ back_pairs l.depth (drop l.i l.us) (drop l.i l.vs)
