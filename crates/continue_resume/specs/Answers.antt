-- What the two calls answer, where their definitions say what they give. Want of memory shows nothing.
use Rattle.std.specs.Prelude.{◌≡◌, Result, Ok, Err}
use Rattle.ld_trees.specs.Term.{Term}
use Rattle.goal_state.specs.StoredState.{StoredState, plain_state}
use Rattle.continue_resume.specs.Continuing.{Continued, TargetHasGoals, RootDiffers, Continues}
use Rattle.continue_resume.specs.Resuming.{Resumed, GoalUndeclared, GoalAssigned, Resumes}
use Rattle.continue_resume.specs.declared.fault.ContinueFault.{ContinueFault}
use Rattle.continue_resume.specs.declared.fault.ContinueFault.TheVariants as continue_fault
use Rattle.continue_resume.specs.declared.fault.ResumeFault.{ResumeFault}
use Rattle.continue_resume.specs.declared.fault.ResumeFault.TheVariants as resume_fault

abbrev pub ShowsContinue : Continued → ContinueFault → Type 0
ShowsContinue o (continue_fault.TargetHasGoals count) = o ≡ TargetHasGoals count
ShowsContinue o continue_fault.RootDiffers = o ≡ RootDiffers
ShowsContinue o continue_fault.Memory = Unit {0}

-- a refusal that isn't want of memory
abbrev pub ShowsRefusal : Resumed → ResumeFault → Type 0
ShowsRefusal o (resume_fault.GoalUndeclared m) = o ≡ GoalUndeclared m
ShowsRefusal o (resume_fault.GoalAssigned m) = o ≡ GoalAssigned m
ShowsRefusal o resume_fault.Memory = ⊥

abbrev pub ShowsResume : Resumed → ResumeFault → Type 0
ShowsResume o resume_fault.Memory = Unit {0}
ShowsResume o e = ShowsRefusal o e

abbrev pub AnswersContinue : {T H : Type 0} → (T → H → Term) → Continued → Result (StoredState T H) ContinueFault → Type 0
AnswersContinue means o (Ok s) = o ≡ Continues (plain_state means s)
AnswersContinue means o (Err e) = ShowsContinue o e

abbrev pub AnswersResume : {T H : Type 0} → (T → H → Term) → Resumed → Result (StoredState T H) ResumeFault → Type 0
AnswersResume means o (Ok s) = o ≡ Resumes (plain_state means s)
AnswersResume means o (Err e) = ShowsResume o e
