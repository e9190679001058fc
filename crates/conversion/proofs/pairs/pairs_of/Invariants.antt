use Rattle.std.proofs.Common.{◌≡◌, ◌++◌, All}
use Rattle.ld_trees.specs.Term.{nodes}
use Rattle.conversion.specs.Conversion.{alike, part_pairs}
use Rattle.conversion.specs.Spines.{pairs_back, BothHeld}
use Rattle.conversion.proofs.pairs.pairs_of.Given as goal

abbrev pub invariant-loop-f : goal.invariant-loop-f
invariant-loop-f g l =
    let means = g.T.Terms.means l.terms in
    g.T.Terms.holds l.terms l.x
    × g.T.Terms.holds l.terms l.y
    × All (BothHeld (g.T.Terms.holds l.terms)) l.pairs.items
    × (alike (means l.x) (means l.y) ≡ alike (means l.fn.a) (means l.fn.b))
    × (part_pairs (means l.x) (means l.y) ++ pairs_back means l.pairs.items ≡ part_pairs (means l.fn.a) (means l.fn.b))

abbrev pub decreases-loop-f : goal.decreases-loop-f
decreases-loop-f g l = nodes (g.T.Terms.means l.terms l.x)
