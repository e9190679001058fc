use Rattle.std.proofs.Common.{map, vec_len, ◌+◌, ◌*◌}
use Rattle.ld_trees.specs.Term.{nodes, nodes_all}
use Rattle.ld_trees.specs.Substitution.{subst_at, substs_at}
use Rattle.ld_terms.specs.Views.{terms_of}
use Rattle.ld_terms.proofs.Turns.{Turn}
use Rattle.ld_terms.proofs.Spines.{Rest}
use Rattle.ld_terms.proofs.substitution.+substituting.Given as goal

abbrev pub decreases-subst_at : goal.decreases-subst_at
decreases-subst_at g l = 3 * nodes (g.T.Terms.means l.terms.now l.h)

abbrev pub decreases-subst_application : goal.decreases-subst_application
decreases-subst_application g l = 3 * (nodes (g.T.Terms.means l.terms.now l.f) + nodes (g.T.Terms.means l.terms.now l.a)) + 2

abbrev pub decreases-subst_spine : goal.decreases-subst_spine
decreases-subst_spine g l = 3 * nodes (g.T.Terms.means l.terms.now l.h) + 1

abbrev pub decreases-subst_bound : goal.decreases-subst_bound
decreases-subst_bound g l = 3 * (nodes (g.T.Terms.means l.terms.now l.a) + nodes (g.T.Terms.means l.terms.now l.m)) + 1

abbrev pub decreases-subst_each : goal.decreases-subst_each
decreases-subst_each g l = 3 * nodes_all (terms_of (map (g.T.Terms.means l.terms.now) l.us.now)) + 1

abbrev pub invariant-subst_spine-loop-u : goal.invariant-subst_spine-loop-u
invariant-subst_spine-loop-u g l =
    Rest (g.T.Terms.holds l.fn.terms) (g.T.Terms.means l.fn.terms) (g.T.Terms.holds l.terms) (g.T.Terms.means l.terms)
    (subst_at l.under (terms_of (map (g.T.Terms.means l.fn.terms) l.args))) (g.T.Terms.means l.fn.terms l.fn.h) l.made l.spine.args.items

abbrev pub decreases-subst_spine-loop-u : goal.decreases-subst_spine-loop-u
decreases-subst_spine-loop-u g l = vec_len l.spine.args

abbrev pub invariant-subst_each-loop-u : goal.invariant-subst_each-loop-u
invariant-subst_each-loop-u g l =
    Turn (g.T.Terms.holds l.fn.terms) (g.T.Terms.means l.fn.terms) (g.T.Terms.holds l.terms) (g.T.Terms.means l.terms)
    (substs_at l.under (terms_of (map (g.T.Terms.means l.fn.terms) l.args))) l.us l.made.items l.u-index
