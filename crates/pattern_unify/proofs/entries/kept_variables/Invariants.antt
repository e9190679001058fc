use Rattle.std.proofs.Common.{◌≡◌, ◌-◌, take, length, reverse}
use Rattle.unification.specs.Pruning.{kept_variables}
use Rattle.pattern_unify.specs.Walks.{variables_of}
use Rattle.pattern_unify.proofs.entries.kept_variables.Given as goal

abbrev pub invariant-loop-k : goal.invariant-loop-k
invariant-loop-k l = variables_of l.variables.items ≡ kept_variables (reverse (take l.k l.flags)) (length l.flags - l.k)
