use Rattle.std.proofs.Common.{refl}
use Rattle.std.specs.Fmt.{digits}
use Rattle.json.specs.Print.{escape_byte}
use Rattle.reply_text.specs.Shown.{term_json}
use Rattle.reply_text.specs.Context.{context_json, shown_names}
use Rattle.reply_text.proofs.examples.worked_values.Goals as goal

pub returns-clause-printed : goal.returns-clause-printed
unfolding context_json shown_names term_json escape_byte digits
returns-clause-printed c = refl

pub returns-clause-large : goal.returns-clause-large
unfolding context_json shown_names term_json escape_byte digits
returns-clause-large c = refl

pub returns-clause-term : goal.returns-clause-term
unfolding context_json shown_names term_json escape_byte digits
returns-clause-term c = refl

pub returns-clause-levels : goal.returns-clause-levels
unfolding context_json shown_names term_json escape_byte digits
returns-clause-levels c = refl

pub returns-clause-empty : goal.returns-clause-empty
unfolding context_json shown_names term_json escape_byte digits
returns-clause-empty c = refl

pub returns-clause-context : goal.returns-clause-context
unfolding context_json shown_names term_json escape_byte digits
returns-clause-context c = refl

pub returns-clause-hidden : goal.returns-clause-hidden
unfolding context_json shown_names term_json escape_byte digits
returns-clause-hidden c = refl
