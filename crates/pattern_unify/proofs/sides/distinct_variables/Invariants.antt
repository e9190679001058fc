use Rattle.std.proofs.Common.{map, take, Some}
use Rattle.ld_terms.specs.Views.{terms_of}
use Rattle.pattern_unify.specs.Walks.{AreDistinct}
use Rattle.pattern_unify.proofs.sides.distinct_variables.Given as goal

abbrev pub invariant-loop-u : goal.invariant-loop-u
invariant-loop-u g l = AreDistinct (terms_of (map (g.T.Terms.means l.terms) (take l.u-index l.us))) (Some l.variables.items)
