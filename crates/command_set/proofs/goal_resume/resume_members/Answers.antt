use Rattle.std.proofs.Common.{◌≡◌, subst, ◌∙◌, ap, sym, codes}
use Rattle.continue_resume.specs.Answers.{ShowsResume}
use Rattle.reply_text.specs.Refusals.{of_goal}
use Rattle.command_set.specs.Goals.{says}
use Rattle.command_set.specs.Branches.{made_active}
use Rattle.command_set.proofs.Results.{one_ok}
use Rattle.command_set.proofs.goal_resume.resume_members.Goals as goal

pub returns-in-GoalUndeclared : goal.returns-in-GoalUndeclared
returns-in-GoalUndeclared c = λ o s.
    let shown = subst (ShowsResume o) c.in-GoalUndeclared.is s in
    one_ok c.number_members.result (λ x. x ≡ of_goal (codes "goalUndeclared") c.in-GoalUndeclared.m) (λ x. made_active o ≡ says x) (λ x p. ap made_active shown ∙ ap says (sym p)) c.number_members.ensures

pub returns-in-GoalAssigned : goal.returns-in-GoalAssigned
returns-in-GoalAssigned c = λ o s.
    let shown = subst (ShowsResume o) c.in-GoalAssigned.is s in
    one_ok c.number_members-in-GoalAssigned.result (λ x. x ≡ of_goal (codes "goalAssigned") c.in-GoalAssigned.m) (λ x. made_active o ≡ says x) (λ x p. ap made_active shown ∙ ap says (sym p)) c.number_members-in-GoalAssigned.ensures
