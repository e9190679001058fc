use Rattle.std.proofs.Common.{◌≡◌, ◌≤◌, ◌+◌, ◌*◌, map, take, None}
use Rattle.ld_trees.specs.Term.{nodes, nodes_all}
use Rattle.ld_terms.specs.Views.{terms_of}
use Rattle.pattern_unify.specs.Walks.{or_next, bad_variable, bad_variable_of}
use Rattle.pattern_unify.proofs.spots.+walking.Given as goal

abbrev pub decreases-bad_variable : goal.decreases-bad_variable
decreases-bad_variable g l = 3 * nodes (g.T.Terms.means l.terms.now l.h)

abbrev pub decreases-bad_in_application : goal.decreases-bad_in_application
decreases-bad_in_application g l = 3 * (nodes (g.T.Terms.means l.terms.now l.f) + nodes (g.T.Terms.means l.terms.now l.a)) + 1

abbrev pub invariant-bad_in_application-loop-g : goal.invariant-bad_in_application-loop-g
invariant-bad_in_application-loop-g g l =
    let means = g.T.Terms.means l.terms in
    let good = g.A.Allows.good l.allowed in
    g.T.Terms.holds l.terms l.head
    × (nodes (means l.head) ≤ nodes (means l.fn.f))
    × (or_next (bad_variable good l.under (means l.head)) l.found ≡ or_next (bad_variable good l.under (means l.fn.f)) (bad_variable good l.under (means l.fn.a)))

abbrev pub decreases-bad_in_application-loop-g : goal.decreases-bad_in_application-loop-g
decreases-bad_in_application-loop-g g l = nodes (g.T.Terms.means l.terms l.head)

abbrev pub decreases-bad_in_two : goal.decreases-bad_in_two
decreases-bad_in_two g l = 3 * (nodes (g.T.Terms.means l.terms.now l.a) + nodes (g.T.Terms.means l.terms.now l.b)) + 1

abbrev pub decreases-bad_in_all : goal.decreases-bad_in_all
decreases-bad_in_all g l = 3 * nodes_all (terms_of (map (g.T.Terms.means l.terms.now) l.us.now)) + 1

abbrev pub invariant-bad_in_all-loop-u : goal.invariant-bad_in_all-loop-u
invariant-bad_in_all-loop-u g l =
    bad_variable_of (g.A.Allows.good l.allowed) l.under (terms_of (map (g.T.Terms.means l.terms) (take l.u-index l.us))) ≡ None
