use Rattle.std.proofs.Common.{◌+◌, ◌*◌, map, vec_len}
use Rattle.ld_trees.specs.Term.{nodes, nodes_all}
use Rattle.ld_terms.specs.Views.{terms_of}
use Rattle.ld_terms.proofs.Turns.{Turn}
use Rattle.ld_terms.proofs.Spines.{Rest}
use Rattle.pattern_unify.specs.Walks.{renamed_at, all_renamed_at}
use Rattle.pattern_unify.proofs.renaming.+renaming.Given as goal

abbrev pub decreases-rename_at : goal.decreases-rename_at
decreases-rename_at g l = 3 * nodes (g.T.Terms.means l.terms.now l.h)

abbrev pub decreases-rename_application : goal.decreases-rename_application
decreases-rename_application g l = 3 * (nodes (g.T.Terms.means l.terms.now l.f) + nodes (g.T.Terms.means l.terms.now l.a)) + 2

abbrev pub decreases-rename_spine : goal.decreases-rename_spine
decreases-rename_spine g l = 3 * nodes (g.T.Terms.means l.terms.now l.h) + 1

abbrev pub decreases-rename_bound : goal.decreases-rename_bound
decreases-rename_bound g l = 3 * (nodes (g.T.Terms.means l.terms.now l.a) + nodes (g.T.Terms.means l.terms.now l.m)) + 1

abbrev pub decreases-rename_each : goal.decreases-rename_each
decreases-rename_each g l = 3 * nodes_all (terms_of (map (g.T.Terms.means l.terms.now) l.us.now)) + 1

abbrev pub invariant-rename_spine-loop-u : goal.invariant-rename_spine-loop-u
invariant-rename_spine-loop-u g l =
    Rest (g.T.Terms.holds l.fn.terms) (g.T.Terms.means l.fn.terms) (g.T.Terms.holds l.terms) (g.T.Terms.means l.terms)
    (renamed_at (g.N.Names.name l.names) l.under) (g.T.Terms.means l.fn.terms l.fn.h) l.made l.spine.args.items

abbrev pub decreases-rename_spine-loop-u : goal.decreases-rename_spine-loop-u
decreases-rename_spine-loop-u g l = vec_len l.spine.args

abbrev pub invariant-rename_each-loop-u : goal.invariant-rename_each-loop-u
invariant-rename_each-loop-u g l =
    Turn (g.T.Terms.holds l.fn.terms) (g.T.Terms.means l.fn.terms) (g.T.Terms.holds l.terms) (g.T.Terms.means l.terms)
    (all_renamed_at (g.N.Names.name l.names) l.under) l.us l.made.items l.u-index
