use Rattle.std.proofs.Common.{◌+◌, ◌*◌, map, vec_len}
use Rattle.ld_trees.specs.Term.{nodes, nodes_all}
use Rattle.ld_terms.specs.Views.{terms_of}
use Rattle.ld_terms.proofs.Turns.{Turn}
use Rattle.ld_terms.proofs.Spines.{Rest}
use Rattle.move_set.specs.Replacing.{replaced, replaced_in}
use Rattle.move_set.proofs.replacing.+replacing.Given as goal

abbrev pub decreases-replace : goal.decreases-replace
decreases-replace g l = 4 * nodes (g.T.Terms.means l.terms.now l.h)

abbrev pub decreases-replace_application : goal.decreases-replace_application
decreases-replace_application g l = 4 * (nodes (g.T.Terms.means l.terms.now l.f) + nodes (g.T.Terms.means l.terms.now l.a)) + 2

abbrev pub decreases-replace_spine : goal.decreases-replace_spine
decreases-replace_spine g l = 4 * nodes (g.T.Terms.means l.terms.now l.h) + 1

abbrev pub decreases-replace_two : goal.decreases-replace_two
decreases-replace_two g l = 4 * (nodes (g.T.Terms.means l.terms.now l.a) + nodes (g.T.Terms.means l.terms.now l.b)) + 1

abbrev pub decreases-replace_constant : goal.decreases-replace_constant
decreases-replace_constant g l = 4 * nodes_all (terms_of (map (g.T.Terms.means l.terms.now) l.us.now)) + 2

abbrev pub decreases-replace_each : goal.decreases-replace_each
decreases-replace_each g l = 4 * nodes_all (terms_of (map (g.T.Terms.means l.terms.now) l.us.now)) + 1

abbrev pub invariant-replace_spine-loop-u : goal.invariant-replace_spine-loop-u
invariant-replace_spine-loop-u g l =
    Rest (g.T.Terms.holds l.fn.terms) (g.T.Terms.means l.fn.terms) (g.T.Terms.holds l.terms) (g.T.Terms.means l.terms)
    (replaced l.name (g.T.Terms.means l.fn.terms l.body)) (g.T.Terms.means l.fn.terms l.fn.h) l.made l.spine.args.items

abbrev pub decreases-replace_spine-loop-u : goal.decreases-replace_spine-loop-u
decreases-replace_spine-loop-u g l = vec_len l.spine.args

abbrev pub invariant-replace_each-loop-u : goal.invariant-replace_each-loop-u
invariant-replace_each-loop-u g l =
    Turn (g.T.Terms.holds l.fn.terms) (g.T.Terms.means l.fn.terms) (g.T.Terms.holds l.terms) (g.T.Terms.means l.terms)
    (replaced_in l.name (g.T.Terms.means l.fn.terms l.body)) l.us l.made.items l.u-index
