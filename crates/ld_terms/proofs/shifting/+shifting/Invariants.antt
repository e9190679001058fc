use Rattle.std.proofs.Common.{map, vec_len, ◌+◌, ◌*◌}
use Rattle.ld_trees.specs.Term.{nodes, nodes_all}
use Rattle.ld_trees.specs.Substitution.{shift, shifts}
use Rattle.ld_terms.specs.Views.{terms_of}
use Rattle.ld_terms.proofs.Turns.{Turn}
use Rattle.ld_terms.proofs.Spines.{Rest}
use Rattle.ld_terms.proofs.shifting.+shifting.Given as goal

abbrev pub decreases-shift_term : goal.decreases-shift_term
decreases-shift_term g l = 3 * nodes (g.T.Terms.means l.terms.now l.h)

abbrev pub decreases-shift_application : goal.decreases-shift_application
decreases-shift_application g l = 3 * (nodes (g.T.Terms.means l.terms.now l.f) + nodes (g.T.Terms.means l.terms.now l.a)) + 2

abbrev pub decreases-shift_spine : goal.decreases-shift_spine
decreases-shift_spine g l = 3 * nodes (g.T.Terms.means l.terms.now l.h) + 1

abbrev pub decreases-shift_bound : goal.decreases-shift_bound
decreases-shift_bound g l = 3 * (nodes (g.T.Terms.means l.terms.now l.a) + nodes (g.T.Terms.means l.terms.now l.m)) + 1

abbrev pub decreases-shift_each : goal.decreases-shift_each
decreases-shift_each g l = 3 * nodes_all (terms_of (map (g.T.Terms.means l.terms.now) l.args.now)) + 1

abbrev pub invariant-shift_spine-loop-arg : goal.invariant-shift_spine-loop-arg
invariant-shift_spine-loop-arg g l =
    Rest (g.T.Terms.holds l.fn.terms) (g.T.Terms.means l.fn.terms) (g.T.Terms.holds l.terms) (g.T.Terms.means l.terms)
    (shift l.from l.by) (g.T.Terms.means l.fn.terms l.fn.h) l.made l.spine.args.items

abbrev pub decreases-shift_spine-loop-arg : goal.decreases-shift_spine-loop-arg
decreases-shift_spine-loop-arg g l = vec_len l.spine.args

abbrev pub invariant-shift_each-loop-arg : goal.invariant-shift_each-loop-arg
invariant-shift_each-loop-arg g l =
    Turn (g.T.Terms.holds l.fn.terms) (g.T.Terms.means l.fn.terms) (g.T.Terms.holds l.terms) (g.T.Terms.means l.terms)
    (shifts l.from l.by) l.args l.made.items l.arg-index
