use Rattle.std.proofs.Common.{◌≡◌}
use Rattle.meta_trees.specs.Dependencies.{below}
use Rattle.coupling.specs.Marks.{is_open_and_marked}
use Rattle.coupling.proofs.goals.marked_numbers.Given as goal

abbrev pub invariant-loop-m : goal.invariant-loop-m
invariant-loop-m g l = l.numbers.items ≡ below (is_open_and_marked l.metas l.marks) l.m
