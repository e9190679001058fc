use Rattle.std.proofs.Common.{◌∙◌, sym, ap}
use Rattle.goal_state.specs.State.{State}
use Rattle.state_tree.specs.Value.{Says}
use Rattle.command_set.specs.Goals.{move_on}
use Rattle.command_set.proofs.goal_move.move_goal.Goals as goal

pub returns-in_ok-to_body-in-Err : goal.returns-in_ok-to_body-in-Err
returns-in_ok-to_body-in-Err g c =
    ap (λ (s : State). move_on s c.args.goal c.args.text.now c.args.units c.args.auto) (sym c.state.ensures)
    ∙ c.in_ok-members-in-Err.ensures _ c.in-Err.ensures.value
    ∙ ap Says (sym c.in_ok-to_body-in-Err.ensures)
