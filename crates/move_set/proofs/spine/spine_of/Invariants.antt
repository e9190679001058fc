use Rattle.std.proofs.Common.{◌≡◌, All, map}
use Rattle.ld_trees.specs.Term.{nodes}
use Rattle.ld_terms.specs.Spines.{applied}
use Rattle.move_set.proofs.spine.spine_of.Given as goal

abbrev pub invariant-loop-f : goal.invariant-loop-f
invariant-loop-f g l =
    (applied (g.T.Terms.means l.terms l.head) (map (g.T.Terms.means l.terms) l.args.items) ≡ g.T.Terms.means l.terms l.fn.h)
    × g.T.Terms.holds l.terms l.head
    × All (g.T.Terms.holds l.terms) l.args.items

abbrev pub decreases-loop-f : goal.decreases-loop-f
decreases-loop-f g l = nodes (g.T.Terms.means l.terms l.head)
