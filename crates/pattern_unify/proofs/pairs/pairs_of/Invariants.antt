use Rattle.std.proofs.Common.{◌≡◌, ◌++◌}
use Rattle.ld_trees.specs.Term.{nodes}
use Rattle.conversion.specs.Conversion.{alike}
use Rattle.unification.specs.Unification.{part_pairs}
use Rattle.pattern_unify.specs.Pairs.{pairs_back, ArePairsHeld}
use Rattle.pattern_unify.proofs.pairs.pairs_of.Given as goal

abbrev pub invariant-loop-f : goal.invariant-loop-f
invariant-loop-f g l =
    let means = g.T.Terms.means l.terms in
    g.T.Terms.holds l.terms l.x
    × g.T.Terms.holds l.terms l.y
    × ArePairsHeld (g.T.Terms.holds l.terms) l.pairs.items
    × (alike (means l.x) (means l.y) ≡ alike (means l.fn.a) (means l.fn.b))
    × (part_pairs l.depth (means l.x) (means l.y) ++ pairs_back means l.pairs.items ≡ part_pairs l.depth (means l.fn.a) (means l.fn.b))

abbrev pub decreases-loop-f : goal.decreases-loop-f
decreases-loop-f g l = nodes (g.T.Terms.means l.terms l.x)
