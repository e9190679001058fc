use Rattle.std.proofs.Common.{refl}
use Rattle.std.specs.Fmt.{digits}
use Rattle.json.specs.Print.{escape_byte}
use Rattle.reply_text.specs.Refusals.{scoping}
use Rattle.reply_text.proofs.examples.worked_replies.Goals as goal

pub returns-clause-syntax : goal.returns-clause-syntax
unfolding scoping escape_byte digits
returns-clause-syntax c = refl

pub returns-clause-unsolved : goal.returns-clause-unsolved
unfolding scoping escape_byte digits
returns-clause-unsolved c = refl

pub returns-clause-unsolved_item : goal.returns-clause-unsolved_item
unfolding scoping escape_byte digits
returns-clause-unsolved_item c = refl

pub returns-clause-unknown : goal.returns-clause-unknown
unfolding scoping escape_byte digits
returns-clause-unknown c = refl

pub returns-clause-unknown_item : goal.returns-clause-unknown_item
unfolding scoping escape_byte digits
returns-clause-unknown_item c = refl

pub returns-clause-count : goal.returns-clause-count
unfolding scoping escape_byte digits
returns-clause-count c = refl

pub returns-clause-count_item : goal.returns-clause-count_item
unfolding scoping escape_byte digits
returns-clause-count_item c = refl

pub returns-clause-no_expected : goal.returns-clause-no_expected
unfolding scoping escape_byte digits
returns-clause-no_expected c = refl

pub returns-clause-of_goal : goal.returns-clause-of_goal
unfolding scoping escape_byte digits
returns-clause-of_goal c = refl

pub returns-clause-out_of_scope : goal.returns-clause-out_of_scope
unfolding scoping escape_byte digits
returns-clause-out_of_scope c = refl

pub returns-clause-taken : goal.returns-clause-taken
unfolding scoping escape_byte digits
returns-clause-taken c = refl

pub returns-clause-taken_item : goal.returns-clause-taken_item
unfolding scoping escape_byte digits
returns-clause-taken_item c = refl

pub returns-clause-no_item : goal.returns-clause-no_item
unfolding scoping escape_byte digits
returns-clause-no_item c = refl
