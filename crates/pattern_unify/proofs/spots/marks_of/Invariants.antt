use Rattle.std.proofs.Common.{◌≡◌, map, take}
use Rattle.ld_terms.specs.Views.{terms_of}
use Rattle.unification.specs.Pruning.{marks_of}
use Rattle.pattern_unify.proofs.spots.marks_of.Given as goal

abbrev pub invariant-loop-u : goal.invariant-loop-u
invariant-loop-u g l = l.marks.items ≡ marks_of (g.A.Allows.good l.allowed) l.under (terms_of (map (g.T.Terms.means l.terms) (take l.u-index l.us)))
