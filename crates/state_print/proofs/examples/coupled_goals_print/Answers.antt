use Rattle.std.proofs.Common.{refl}
use Rattle.std.specs.Fmt.{digits}
use Rattle.json.specs.Print.{escape_byte}
use Rattle.reply_text.specs.Shown.{term_json}
use Rattle.reply_text.specs.Context.{shown_names, context_json}
use Rattle.state_print.specs.Pieces.{goals_json, dormant_json, proof_json, theorem_json}
use Rattle.state_print.proofs.examples.coupled_goals_print.Goals as goal

pub returns-clause-none : goal.returns-clause-none
unfolding goals_json dormant_json proof_json theorem_json term_json shown_names context_json escape_byte digits
returns-clause-none c = refl

pub returns-clause-several : goal.returns-clause-several
unfolding goals_json dormant_json proof_json theorem_json term_json shown_names context_json escape_byte digits
returns-clause-several c = refl

pub returns-clause-coupled : goal.returns-clause-coupled
unfolding goals_json dormant_json proof_json theorem_json term_json shown_names context_json escape_byte digits
returns-clause-coupled c = refl

pub returns-clause-active : goal.returns-clause-active
unfolding goals_json dormant_json proof_json theorem_json term_json shown_names context_json escape_byte digits
returns-clause-active c = refl

pub returns-clause-one_active : goal.returns-clause-one_active
unfolding goals_json dormant_json proof_json theorem_json term_json shown_names context_json escape_byte digits
returns-clause-one_active c = refl

pub returns-clause-dormant : goal.returns-clause-dormant
unfolding goals_json dormant_json proof_json theorem_json term_json shown_names context_json escape_byte digits
returns-clause-dormant c = refl
