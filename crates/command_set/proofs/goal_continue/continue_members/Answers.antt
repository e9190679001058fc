use Rattle.std.proofs.Common.{◌≡◌, subst, ◌∙◌, ap, sym, None, codes}
use Rattle.continue_resume.specs.Answers.{ShowsContinue}
use Rattle.reply_text.specs.Refusals.{plain}
use Rattle.command_set.specs.Goals.{says}
use Rattle.command_set.specs.Branches.{target_has_goals, went_on}
use Rattle.command_set.proofs.Results.{one_ok}
use Rattle.command_set.proofs.goal_continue.continue_members.Goals as goal

pub returns-in-TargetHasGoals : goal.returns-in-TargetHasGoals
returns-in-TargetHasGoals c = λ o s.
    let shown = subst (ShowsContinue o) c.in-TargetHasGoals.is s in
    one_ok c.target_members.result (λ x. x ≡ target_has_goals c.in-TargetHasGoals.count) (λ x. went_on o ≡ says x) (λ x p. ap went_on shown ∙ ap says (sym p)) c.target_members.ensures

pub returns-in-RootDiffers : goal.returns-in-RootDiffers
returns-in-RootDiffers c = λ o s.
    let shown = subst (ShowsContinue o) c.in-RootDiffers.is s in
    one_ok c.plain_members.result (λ x. x ≡ plain (codes "rootDiffers") None) (λ x. went_on o ≡ says x) (λ x p. ap went_on shown ∙ ap says (sym p)) c.plain_members.ensures
