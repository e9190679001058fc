use Rattle.std.proofs.Common.{◌≡◌}
use Rattle.meta_trees.specs.Dependencies.{below}
use Rattle.state_print.specs.Needs.{share_need}
use Rattle.state_print.proofs.couplings.coupled_by.Given as goal

abbrev pub invariant-loop-h : goal.invariant-loop-h
invariant-loop-h l = l.numbers.items ≡ below (share_need l.all l.g) l.h
