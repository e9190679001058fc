use Rattle.std.proofs.Common.{refl}
use Rattle.std.specs.Fmt.{digits}
use Rattle.json.specs.Print.{escape_byte}
use Rattle.reply_text.specs.Refusals.{kernel}
use Rattle.reply_text.specs.Shown.{term_json}
use Rattle.reply_text.proofs.examples.worked_faults.Goals as goal

pub returns-clause-mismatch : goal.returns-clause-mismatch
unfolding kernel term_json escape_byte digits
returns-clause-mismatch c = refl

pub returns-clause-mismatch_item : goal.returns-clause-mismatch_item
unfolding kernel term_json escape_byte digits
returns-clause-mismatch_item c = refl

pub returns-clause-no_type : goal.returns-clause-no_type
unfolding kernel term_json escape_byte digits
returns-clause-no_type c = refl

pub returns-clause-no_type_item : goal.returns-clause-no_type_item
unfolding kernel term_json escape_byte digits
returns-clause-no_type_item c = refl

pub returns-clause-no_function : goal.returns-clause-no_function
unfolding kernel term_json escape_byte digits
returns-clause-no_function c = refl

pub returns-clause-no_function_item : goal.returns-clause-no_function_item
unfolding kernel term_json escape_byte digits
returns-clause-no_function_item c = refl

pub returns-clause-reduct : goal.returns-clause-reduct
unfolding kernel term_json escape_byte digits
returns-clause-reduct c = refl

pub returns-clause-reduct_item : goal.returns-clause-reduct_item
unfolding kernel term_json escape_byte digits
returns-clause-reduct_item c = refl

pub returns-clause-fuel : goal.returns-clause-fuel
unfolding kernel term_json escape_byte digits
returns-clause-fuel c = refl

pub returns-clause-fuel_item : goal.returns-clause-fuel_item
unfolding kernel term_json escape_byte digits
returns-clause-fuel_item c = refl
