use Rattle.std.proofs.Common.{◌∙◌, sym, ap}
use Rattle.goal_state.specs.State.{State}
use Rattle.state_tree.specs.Value.{Says}
use Rattle.command_set.specs.Branches.{resume_with}
use Rattle.command_set.proofs.goal_resume.resume_goals.Goals as goal

pub returns-in_ok-to_body-in-Err : goal.returns-in_ok-to_body-in-Err
returns-in_ok-to_body-in-Err g c =
    ap (λ (s : State). resume_with s c.args.goals.now) (sym c.state.ensures)
    ∙ c.in_ok-members-in-Err.ensures _ c.in-Err.ensures
    ∙ ap Says (sym c.in_ok-to_body-in-Err.ensures)
