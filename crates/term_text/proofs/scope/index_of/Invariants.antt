use Rattle.std.proofs.Common.{◌≡◌, ◌+◌, length, take}
use Rattle.term_syntax.specs.Scoping.{index_of}
use Rattle.term_text.specs.Scoped.{bound_of}
use Rattle.term_text.proofs.Indices.{raised}
use Rattle.term_text.proofs.scope.index_of.Given as goal

abbrev pub invariant-loop-left : goal.invariant-loop-left
invariant-loop-left l = (l.passed + l.left ≡ length l.bound) × (index_of l.names l.x (bound_of l.bound) ≡ raised l.passed (index_of l.names l.x (bound_of (take l.left l.bound))))

abbrev pub decreases-loop-left : goal.decreases-loop-left
decreases-loop-left l = l.left
