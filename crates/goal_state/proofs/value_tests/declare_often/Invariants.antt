use Rattle.std.proofs.Common.{All}
use Rattle.conversion.specs.Globals.{IsDeclOf}
use Rattle.goal_state.proofs.value_tests.declare_often.Given as goal

abbrev pub invariant-loop : goal.invariant-loop
invariant-loop g l = All (IsDeclOf (g.T.Terms.holds l.terms)) l.metas
