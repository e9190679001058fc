use Rattle.std.proofs.Common.{◌≡◌, ◌+◌, ◌*◌, ◌++◌, max, map, take}
use Rattle.ld_trees.specs.Term.{depth, depth_all}
use Rattle.ld_terms.specs.Views.{terms_of}
use Rattle.term_syntax.specs.Printing.{texts}
use Rattle.term_text.proofs.print.+print.Given as goal

abbrev pub decreases-print_node : goal.decreases-print_node
decreases-print_node g l = 4 * depth (g.T.Terms.means l.terms.now l.h)

abbrev pub decreases-print_inside : goal.decreases-print_inside
decreases-print_inside g l = 4 * depth (g.T.Terms.means l.terms.now l.h) + 1

abbrev pub decreases-print_binder : goal.decreases-print_binder
decreases-print_binder g l = 4 * depth (g.T.Terms.means l.terms.now l.domain) + 1

abbrev pub decreases-print_product : goal.decreases-print_product
decreases-print_product g l = 4 * max (depth (g.T.Terms.means l.terms.now l.domain)) (depth (g.T.Terms.means l.terms.now l.codomain)) + 2

abbrev pub decreases-print_meta : goal.decreases-print_meta
decreases-print_meta g l = 4 * depth_all (terms_of (map (g.T.Terms.means l.terms.now) l.us.now)) + 2

abbrev pub decreases-print_each : goal.decreases-print_each
decreases-print_each g l = 4 * depth_all (terms_of (map (g.T.Terms.means l.terms.now) l.us.now)) + 1

abbrev pub invariant-print_each-loop-i : goal.invariant-print_each-loop-i
invariant-print_each-loop-i g l = l.out.items ≡ l.fn.out.items ++ texts l.names l.k (terms_of (map (g.T.Terms.means l.terms) (take l.i l.us)))
