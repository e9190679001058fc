use Rattle.std.proofs.Common.{◌+◌, ◌*◌, map}
use Rattle.ld_trees.specs.Term.{nodes, nodes_all}
use Rattle.ld_terms.specs.Views.{terms_of}
use Rattle.ld_terms.proofs.Comparisons.{Stands, AreEqualTo}
use Rattle.ld_terms.proofs.same.+same.Given as goal

abbrev pub decreases-same_trees : goal.decreases-same_trees
decreases-same_trees g l = 4 * nodes (g.S.Sides.left_means l.sides.now l.x) + 1

abbrev pub decreases-same_nodes : goal.decreases-same_nodes
decreases-same_nodes g l = 4 * nodes (g.S.Sides.left_means l.sides.now l.x)

abbrev pub decreases-same_spines : goal.decreases-same_spines
decreases-same_spines g l = 4 * nodes (g.S.Sides.left_means l.sides.now l.x) + 2

abbrev pub decreases-same_each : goal.decreases-same_each
decreases-same_each g l = 4 * nodes_all (terms_of (map (g.S.Sides.left_means l.sides.now) l.us.now)) + 2

abbrev pub invariant-same_spines-loop-f : goal.invariant-same_spines-loop-f
invariant-same_spines-loop-f g l =
    Stands (g.S.Sides.left_means l.sides) (g.S.Sides.right_means l.sides) l.fn.x l.fn.y l.l l.r
    × g.S.Sides.left_holds l.sides l.l
    × g.S.Sides.right_holds l.sides l.r

abbrev pub decreases-same_spines-loop-f : goal.decreases-same_spines-loop-f
decreases-same_spines-loop-f g l = nodes (g.S.Sides.left_means l.sides l.l)

abbrev pub invariant-same_each-loop-i : goal.invariant-same_each-loop-i
invariant-same_each-loop-i g l = AreEqualTo l.i (g.S.Sides.left_means l.sides) (g.S.Sides.right_means l.sides) l.us l.vs
