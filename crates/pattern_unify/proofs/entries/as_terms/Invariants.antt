use Rattle.std.proofs.Common.{take}
use Rattle.pattern_unify.proofs.Places.{AreMade}
use Rattle.pattern_unify.proofs.entries.as_terms.Given as goal

abbrev pub invariant-loop-i : goal.invariant-loop-i
invariant-loop-i g l = AreMade (g.T.Terms.holds l.fn.terms) (g.T.Terms.means l.fn.terms) (g.T.Terms.holds l.terms) (g.T.Terms.means l.terms) (take l.i-index l.variables) l.made.items
