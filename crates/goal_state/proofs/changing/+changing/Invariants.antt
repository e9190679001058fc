use Rattle.std.proofs.Common.{map, ◌+◌, ◌*◌}
use Rattle.ld_trees.specs.Term.{nodes, nodes_all}
use Rattle.ld_terms.specs.Views.{terms_of}
use Rattle.goal_state.proofs.Changes.{weight, Changing}
use Rattle.goal_state.proofs.changing.+changing.Given as goal

abbrev pub decreases-change_term : goal.decreases-change_term
decreases-change_term g l = weight (g.T.Terms.means l.terms.now) l.way + 4 * nodes (g.T.Terms.means l.terms.now l.h) + 1

abbrev pub decreases-change_node : goal.decreases-change_node
decreases-change_node g l = weight (g.T.Terms.means l.terms.now) l.way + 4 * nodes (g.T.Terms.means l.terms.now l.h)

abbrev pub decreases-change_two : goal.decreases-change_two
decreases-change_two g l = weight (g.T.Terms.means l.terms.now) l.way + 4 * (nodes (g.T.Terms.means l.terms.now l.a) + nodes (g.T.Terms.means l.terms.now l.b)) + 2

abbrev pub decreases-change_each : goal.decreases-change_each
decreases-change_each g l = weight (g.T.Terms.means l.terms.now) l.way + 4 * nodes_all (terms_of (map (g.T.Terms.means l.terms.now) l.us.now)) + 2

abbrev pub decreases-change_variable : goal.decreases-change_variable
decreases-change_variable g l = weight (g.T.Terms.means l.terms.now) l.way + 3

abbrev pub decreases-put_for : goal.decreases-put_for
decreases-put_for g l = 4 * nodes_all (terms_of (map (g.T.Terms.means l.terms.now) l.args.now)) + 8

abbrev pub invariant-change_each-loop-u : goal.invariant-change_each-loop-u
invariant-change_each-loop-u g l =
    Changing (g.T.Terms.holds l.fn.terms) (g.T.Terms.means l.fn.terms) (g.T.Terms.holds l.terms) (g.T.Terms.means l.terms)
    l.way g.T.Handle.Ord.cmp l.known l.under l.us l.made.items l.u-index

abbrev pub decreases-change_constant : goal.decreases-change_constant
decreases-change_constant g l = weight (g.T.Terms.means l.terms.now) l.way + 4 * nodes_all (terms_of (map (g.T.Terms.means l.terms.now) l.us.now)) + 3

abbrev pub decreases-change_meta : goal.decreases-change_meta
decreases-change_meta g l = weight (g.T.Terms.means l.terms.now) l.way + 4 * nodes_all (terms_of (map (g.T.Terms.means l.terms.now) l.us.now)) + 3
