use Rattle.std.proofs.Common.{refl}
use Rattle.std.specs.Fmt.{digits}
use Rattle.json.specs.Print.{escape_byte}
use Rattle.reply_text.specs.Refusals.{kernel}
use Rattle.reply_text.specs.Shown.{term_json}
use Rattle.command_set.proofs.goal_examples.elaboration_refusals_compute.Goals as goal

pub returns-clause-unknown : goal.returns-clause-unknown
unfolding kernel term_json escape_byte digits
returns-clause-unknown c = refl

pub returns-clause-count : goal.returns-clause-count
unfolding kernel term_json escape_byte digits
returns-clause-count c = refl

pub returns-clause-no_expected : goal.returns-clause-no_expected
unfolding kernel term_json escape_byte digits
returns-clause-no_expected c = refl

pub returns-clause-no_function : goal.returns-clause-no_function
unfolding kernel term_json escape_byte digits
returns-clause-no_function c = refl

pub returns-clause-no_type : goal.returns-clause-no_type
unfolding kernel term_json escape_byte digits
returns-clause-no_type c = refl

pub returns-clause-kernel : goal.returns-clause-kernel
unfolding kernel term_json escape_byte digits
returns-clause-kernel c = refl

pub returns-clause-mismatch : goal.returns-clause-mismatch
unfolding kernel term_json escape_byte digits
returns-clause-mismatch c = refl

pub returns-clause-not_pattern : goal.returns-clause-not_pattern
unfolding kernel term_json escape_byte digits
returns-clause-not_pattern c = refl

pub returns-clause-out_of_scope : goal.returns-clause-out_of_scope
unfolding kernel term_json escape_byte digits
returns-clause-out_of_scope c = refl

pub returns-clause-too_deep : goal.returns-clause-too_deep
unfolding kernel term_json escape_byte digits
returns-clause-too_deep c = refl

pub returns-clause-cycle : goal.returns-clause-cycle
unfolding kernel term_json escape_byte digits
returns-clause-cycle c = refl
