use Rattle.std.proofs.Common.{refl}
use Rattle.std.specs.Fmt.{digits}
use Rattle.json.specs.Print.{escape_byte}
use Rattle.reply_text.specs.Refusals.{scoping, kernel}
use Rattle.reply_text.specs.Shown.{term_json}
use Rattle.command_set.specs.Books.{book_refusal}
use Rattle.command_set.proofs.examples.additions_compute.Goals as goal

pub returns-clause-added : goal.returns-clause-added
unfolding book_refusal scoping kernel term_json escape_byte digits
returns-clause-added c = refl

pub returns-clause-syntax : goal.returns-clause-syntax
unfolding book_refusal scoping kernel term_json escape_byte digits
returns-clause-syntax c = refl

pub returns-clause-taken : goal.returns-clause-taken
unfolding book_refusal scoping kernel term_json escape_byte digits
returns-clause-taken c = refl

pub returns-clause-unsolved : goal.returns-clause-unsolved
unfolding book_refusal scoping kernel term_json escape_byte digits
returns-clause-unsolved c = refl

pub returns-clause-mismatch : goal.returns-clause-mismatch
unfolding book_refusal scoping kernel term_json escape_byte digits
returns-clause-mismatch c = refl

pub returns-clause-fuel : goal.returns-clause-fuel
unfolding book_refusal scoping kernel term_json escape_byte digits
returns-clause-fuel c = refl
