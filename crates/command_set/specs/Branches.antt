-- `goal.continue` and `goal.resume`: a state goes on with the goals of another one, or with dormant goals of its own.
use Rattle.std.specs.Prelude.{ℕ, List, [], ◌∷◌, None, codes}
use Rattle.goal_state.specs.State.{State}
use Rattle.continue_resume.specs.Continuing.{Continued, TargetHasGoals, RootDiffers, Continues, continued}
use Rattle.continue_resume.specs.Resuming.{Resumed, GoalUndeclared, GoalAssigned, Resumes, resumed}
use Rattle.reply_text.specs.declared.members.Members.{Members}
use Rattle.reply_text.specs.Members.{number}
use Rattle.reply_text.specs.Refusals.{error, plain, of_goal}
use Rattle.command_set.specs.Goals.{Given, makes, says}

-- ---- `goal.continue`

-- a target that has so many active goals
abbrev pub target_has_goals : ℕ → Members
target_has_goals count = record { before = number (codes "count") count ∷ error (codes "targetHasGoals") ∷ []; after = [] }

-- the state that goes on with another one, or why there is none
abbrev pub went_on : Continued → Given
went_on (TargetHasGoals count) = says (target_has_goals count)
went_on RootDiffers = says (plain (codes "rootDiffers") None)
went_on (Continues s) = makes s

-- a target goes on with a branch
abbrev pub continue_with : State → State → Given
continue_with target branch = went_on (continued target branch)

-- ---- `goal.resume`

-- the state with further active goals, or why there is none
abbrev pub made_active : Resumed → Given
made_active (GoalUndeclared m) = says (of_goal (codes "goalUndeclared") m)
made_active (GoalAssigned m) = says (of_goal (codes "goalAssigned") m)
made_active (Resumes s) = makes s

-- listed goals of a state become active
abbrev pub resume_with : State → List ℕ → Given
resume_with s goals = made_active (resumed s goals)
