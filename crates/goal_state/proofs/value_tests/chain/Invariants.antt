use Rattle.std.proofs.Common.{All}
use Rattle.ld_terms.specs.Views.{Keeps}
use Rattle.conversion.specs.Globals.{IsDeclOf}
use Rattle.goal_state.proofs.value_tests.chain.Given as goal

abbrev pub invariant-loop-m : goal.invariant-loop-m
invariant-loop-m g l =
    All (IsDeclOf (g.T.Terms.holds l.terms)) l.metas
    × Keeps (g.T.Terms.holds l.fn.terms) (g.T.Terms.means l.fn.terms) (g.T.Terms.holds l.terms) (g.T.Terms.means l.terms)
