use Rattle.std.proofs.Common.{refl}
use Rattle.std.specs.Fmt.{digits}
use Rattle.json.specs.Print.{escape_byte}
use Rattle.reply_text.specs.Refusals.{scoping, kernel}
use Rattle.reply_text.specs.Shown.{term_json}
use Rattle.term_syntax.specs.Lex.{token, lexemes}
use Rattle.term_syntax.specs.Kinds.{is_kind}
use Rattle.term_syntax.specs.Reading.{read, finish, term, whole, abstraction, product, arrows, app, applied, atoms, atoms_from, atom, parenthesized, constant, arguments, arguments_from, binder, label_at, expect, eat}
use Rattle.term_syntax.specs.Grammar.{level_of}
use Rattle.command_set.specs.Echo.{echo}
use Rattle.command_set.proofs.examples.echoes_compute.Goals as goal

pub returns-clause-identity : goal.returns-clause-identity
unfolding scoping kernel term_json escape_byte digits
returns-clause-identity c = refl

pub returns-clause-star : goal.returns-clause-star
unfolding scoping kernel term_json escape_byte digits
returns-clause-star c = refl

pub returns-clause-constant : goal.returns-clause-constant
unfolding scoping kernel term_json escape_byte digits
returns-clause-constant c = refl

pub returns-clause-mismatch : goal.returns-clause-mismatch
unfolding scoping kernel term_json escape_byte digits
returns-clause-mismatch c = refl

pub returns-clause-no_function : goal.returns-clause-no_function
unfolding scoping kernel term_json escape_byte digits
returns-clause-no_function c = refl

pub returns-clause-no_type : goal.returns-clause-no_type
unfolding scoping kernel term_json escape_byte digits
returns-clause-no_type c = refl

pub returns-clause-enough : goal.returns-clause-enough
unfolding scoping kernel term_json escape_byte digits
returns-clause-enough c = refl

pub returns-clause-fuel : goal.returns-clause-fuel
unfolding scoping kernel term_json escape_byte digits
returns-clause-fuel c = refl

pub returns-clause-count : goal.returns-clause-count
unfolding scoping kernel term_json escape_byte digits
returns-clause-count c = refl

pub returns-clause-syntax : goal.returns-clause-syntax
unfolding echo read finish term whole abstraction product arrows app applied atoms atoms_from atom parenthesized constant arguments arguments_from binder label_at level_of expect eat is_kind lexemes token scoping kernel term_json escape_byte digits
returns-clause-syntax c = refl
