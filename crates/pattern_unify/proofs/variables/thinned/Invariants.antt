use Rattle.std.proofs.Common.{◌≡◌, ◌≤◌, length, reverse}
use Rattle.unification.specs.Pruning.{thin}
use Rattle.pattern_unify.proofs.variables.thinned.Given as goal

abbrev pub invariant-loop-k : goal.invariant-loop-k
invariant-loop-k l = (l.kept ≡ thin (reverse l.flags) l.k) × (l.kept ≤ l.k) × (l.k ≤ length l.flags)
