use Rattle.std.proofs.Common.{arith}
use Rattle.std.proofs.lemmas.Grind.{common_steps}
use Rattle.goal_state.specs.StoredState.{plain_state}
use Rattle.state_print.proofs.Shown.{solved_as}
use Rattle.state_print.proofs.printing.print_state.Goals as goal

pub returns : goal.returns
returns g c = let e = solved_as c.solved.result (plain_state g.T.Terms.means c.args.state.now) c.solved.ensures in grind (arith, common_steps)
