use Rattle.ld_trees.specs.Scoping.{Scoped}
use Rattle.term_text.proofs.store_tests.deep.Given as goal

abbrev pub invariant-loop-left : goal.invariant-loop-left
invariant-loop-left g l = g.T.Terms.holds l.terms l.h × Scoped 0 (g.T.Terms.means l.terms l.h)

abbrev pub decreases-loop-left : goal.decreases-loop-left
decreases-loop-left g l = l.left
