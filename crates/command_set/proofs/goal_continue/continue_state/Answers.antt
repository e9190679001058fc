use Rattle.std.proofs.Common.{◌∙◌, sym, ap, ap₂}
use Rattle.state_tree.specs.Value.{Says}
use Rattle.command_set.specs.Branches.{continue_with}
use Rattle.command_set.proofs.goal_continue.continue_state.Goals as goal

pub returns-in_ok-to_body-in-Err : goal.returns-in_ok-to_body-in-Err
returns-in_ok-to_body-in-Err g c =
    ap₂ continue_with (sym c.state.ensures) (sym c.state-2.ensures)
    ∙ c.in_ok-members-in-Err.ensures _ c.in-Err.ensures
    ∙ ap Says (sym c.in_ok-to_body-in-Err.ensures)
