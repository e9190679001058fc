use Rattle.std.proofs.Common.{refl}
use Rattle.std.specs.Fmt.{digits}
use Rattle.json.specs.Print.{escape_byte}
use Rattle.reply_text.specs.Shown.{term_json}
use Rattle.reply_text.specs.Context.{shown_names, context_json}
use Rattle.state_print.specs.Pieces.{goals_json, dormant_json, proof_json, theorem_json}
use Rattle.command_set.proofs.branch_examples.branches_compute.Goals as goal

pub returns-clause-continues : goal.returns-clause-continues
unfolding goals_json dormant_json proof_json theorem_json term_json shown_names context_json escape_byte digits
returns-clause-continues c = refl

pub returns-clause-resumes : goal.returns-clause-resumes
unfolding goals_json dormant_json proof_json theorem_json term_json shown_names context_json escape_byte digits
returns-clause-resumes c = refl

pub returns-clause-nothing : goal.returns-clause-nothing
unfolding goals_json dormant_json proof_json theorem_json term_json shown_names context_json escape_byte digits
returns-clause-nothing c = refl

pub returns-clause-has_goals : goal.returns-clause-has_goals
unfolding escape_byte digits
returns-clause-has_goals c = refl

pub returns-clause-other_root : goal.returns-clause-other_root
unfolding escape_byte digits
returns-clause-other_root c = refl

pub returns-clause-assigned : goal.returns-clause-assigned
unfolding escape_byte digits
returns-clause-assigned c = refl

pub returns-clause-undeclared : goal.returns-clause-undeclared
unfolding escape_byte digits
returns-clause-undeclared c = refl
