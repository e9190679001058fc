use Rattle.std.proofs.Common.{◌≡◌}
use Rattle.goal_state.specs.StoredState.{plain_state}
use Rattle.state_print.specs.Needs.{needs_below}
use Rattle.state_print.proofs.couplings.all_needs.Given as goal

abbrev pub invariant-loop-m : goal.invariant-loop-m
invariant-loop-m g l = l.all.items ≡ needs_below (plain_state g.T.Terms.means l.state).metas l.m
