use Rattle.std.proofs.Common.{map, take, ◌+◌, ◌*◌}
use Rattle.ld_trees.specs.Term.{nodes, nodes_all}
use Rattle.ld_terms.specs.Views.{terms_of}
use Rattle.meta_trees.specs.Dependencies.{occurs_in}
use Rattle.coupling.specs.Looks.{TakesNone}
use Rattle.coupling.specs.Marks.{HasMarked, AreKnown}
use Rattle.coupling.proofs.marks.+marking.Given as goal

abbrev pub decreases-mark : goal.decreases-mark
decreases-mark g l = 3 * nodes (g.T.Terms.means l.terms.now l.h) + 1

abbrev pub decreases-mark_node : goal.decreases-mark_node
decreases-mark_node g l = 3 * nodes (g.T.Terms.means l.terms.now l.h)

abbrev pub decreases-mark_two : goal.decreases-mark_two
decreases-mark_two g l = 3 * (nodes (g.T.Terms.means l.terms.now l.a) + nodes (g.T.Terms.means l.terms.now l.b)) + 2

abbrev pub decreases-mark_each : goal.decreases-mark_each
decreases-mark_each g l = 3 * nodes_all (terms_of (map (g.T.Terms.means l.terms.now) l.us.now)) + 2

abbrev pub invariant-mark_each-loop-u : goal.invariant-mark_each-loop-u
invariant-mark_each-loop-u g l = record {
  marked : HasMarked (λ k. occurs_in k (terms_of (map (g.T.Terms.means l.terms) (take l.u-index l.us)))) l.fn.marks l.marks;
  known : AreKnown (g.T.Terms.means l.terms) l.seen l.marks;
  free : TakesNone l.fn.seen → TakesNone l.seen;
}
