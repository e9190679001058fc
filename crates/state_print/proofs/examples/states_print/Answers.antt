use Rattle.std.proofs.Common.{refl}
use Rattle.std.specs.Fmt.{digits}
use Rattle.json.specs.Print.{escape_byte}
use Rattle.reply_text.specs.Shown.{term_json}
use Rattle.reply_text.specs.Context.{shown_names, context_json}
use Rattle.state_print.specs.Pieces.{goals_json, dormant_json, proof_json, theorem_json}
use Rattle.state_print.proofs.examples.states_print.Goals as goal

pub returns-clause-started : goal.returns-clause-started
unfolding goals_json dormant_json proof_json theorem_json term_json shown_names context_json escape_byte digits
returns-clause-started c = refl

pub returns-clause-one_entry : goal.returns-clause-one_entry
unfolding goals_json dormant_json proof_json theorem_json term_json shown_names context_json escape_byte digits
returns-clause-one_entry c = refl

pub returns-clause-two_entries : goal.returns-clause-two_entries
unfolding goals_json dormant_json proof_json theorem_json term_json shown_names context_json escape_byte digits
returns-clause-two_entries c = refl

pub returns-clause-unfolded : goal.returns-clause-unfolded
unfolding goals_json dormant_json proof_json theorem_json term_json shown_names context_json escape_byte digits
returns-clause-unfolded c = refl

pub returns-clause-proved : goal.returns-clause-proved
unfolding goals_json dormant_json proof_json theorem_json term_json shown_names context_json escape_byte digits
returns-clause-proved c = refl

pub returns-clause-dormant : goal.returns-clause-dormant
unfolding goals_json dormant_json proof_json theorem_json term_json shown_names context_json escape_byte digits
returns-clause-dormant c = refl

pub returns-clause-made : goal.returns-clause-made
unfolding goals_json dormant_json proof_json theorem_json term_json shown_names context_json escape_byte digits
returns-clause-made c = refl

pub returns-clause-made_proved : goal.returns-clause-made_proved
unfolding goals_json dormant_json proof_json theorem_json term_json shown_names context_json escape_byte digits
returns-clause-made_proved c = refl

pub returns-clause-printed : goal.returns-clause-printed
unfolding goals_json dormant_json proof_json theorem_json term_json shown_names context_json escape_byte digits
returns-clause-printed c = refl

pub returns-clause-printed_proved : goal.returns-clause-printed_proved
unfolding goals_json dormant_json proof_json theorem_json term_json shown_names context_json escape_byte digits
returns-clause-printed_proved c = refl
