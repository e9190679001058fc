use Rattle.std.proofs.Common.{◌≡◌, ◌≤◌, ◌+◌, ◌*◌, map, take}
use Rattle.ld_trees.specs.Term.{nodes, nodes_all}
use Rattle.ld_terms.specs.Views.{terms_of}
use Rattle.goal_state.specs.State.{plain_metas}
use Rattle.unification.specs.Pruning.{Nowhere, or_spot}
use Rattle.pattern_unify.specs.Walks.{plain_spot, free_spot, free_spot_of}
use Rattle.pattern_unify.proofs.spots.+looking.Given as goal

abbrev pub decreases-spot_of : goal.decreases-spot_of
decreases-spot_of g l = 3 * nodes (g.T.Terms.means l.terms.now l.h)

abbrev pub decreases-spot_in_application : goal.decreases-spot_in_application
decreases-spot_in_application g l = 3 * (nodes (g.T.Terms.means l.terms.now l.f) + nodes (g.T.Terms.means l.terms.now l.a)) + 1

abbrev pub invariant-spot_in_application-loop-g : goal.invariant-spot_in_application-loop-g
invariant-spot_in_application-loop-g g l =
    let means = g.T.Terms.means l.terms in
    let metas = plain_metas means l.metas in
    let good = g.A.Allows.good l.allowed in
    g.T.Terms.holds l.terms l.head
    × (nodes (means l.head) ≤ nodes (means l.fn.f))
    × (or_spot (free_spot metas good l.under (means l.head)) (plain_spot l.found) ≡ or_spot (free_spot metas good l.under (means l.fn.f)) (free_spot metas good l.under (means l.fn.a)))

abbrev pub decreases-spot_in_application-loop-g : goal.decreases-spot_in_application-loop-g
decreases-spot_in_application-loop-g g l = nodes (g.T.Terms.means l.terms l.head)

abbrev pub decreases-spot_in_two : goal.decreases-spot_in_two
decreases-spot_in_two g l = 3 * (nodes (g.T.Terms.means l.terms.now l.a) + nodes (g.T.Terms.means l.terms.now l.b)) + 1

abbrev pub decreases-spot_in_all : goal.decreases-spot_in_all
decreases-spot_in_all g l = 3 * nodes_all (terms_of (map (g.T.Terms.means l.terms.now) l.us.now)) + 1

abbrev pub invariant-spot_in_all-loop-u : goal.invariant-spot_in_all-loop-u
invariant-spot_in_all-loop-u g l =
    free_spot_of (plain_metas (g.T.Terms.means l.terms) l.metas) (g.A.Allows.good l.allowed) l.under (terms_of (map (g.T.Terms.means l.terms) (take l.u-index l.us))) ≡ Nowhere
