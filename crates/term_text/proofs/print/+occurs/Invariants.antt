use Rattle.std.proofs.Common.{◌≡◌, ◌+◌, ◌*◌, false, map, take}
use Rattle.ld_trees.specs.Term.{depth, depth_all}
use Rattle.ld_terms.specs.Views.{terms_of}
use Rattle.term_syntax.specs.Printing as spec
use Rattle.term_text.proofs.print.+occurs.Given as goal

abbrev pub decreases-occurs : goal.decreases-occurs
decreases-occurs g l = 4 * depth (g.T.Terms.means l.terms.now l.h)

abbrev pub decreases-occurs_in : goal.decreases-occurs_in
decreases-occurs_in g l = 4 * depth_all (terms_of (map (g.T.Terms.means l.terms.now) l.us.now)) + 1

abbrev pub invariant-occurs_in-loop-u : goal.invariant-occurs_in-loop-u
invariant-occurs_in-loop-u g l = spec.occurs_in l.i (terms_of (map (g.T.Terms.means l.terms) (take l.u-index l.us))) ≡ false
