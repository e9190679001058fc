use Rattle.std.proofs.Common.{refl}
use Rattle.term_syntax.specs.Lex.{token, lexemes}
use Rattle.term_syntax.specs.Kinds.{is_kind}
use Rattle.term_syntax.specs.Reading.{read, finish, term, whole, abstraction, product, arrows, app, applied, atoms, atoms_from, atom, parenthesized, constant, arguments, arguments_from, binder, label_at, expect, eat}
use Rattle.term_syntax.specs.Grammar.{level_of}
use Rattle.term_syntax.proofs.laws.refusals_compute.Goals as goal

pub returns-clause-ends_early : goal.returns-clause-ends_early
unfolding read finish term whole abstraction product arrows app applied atoms atoms_from atom parenthesized constant arguments arguments_from binder label_at level_of expect eat is_kind lexemes token
returns-clause-ends_early c = refl

pub returns-clause-bad_byte : goal.returns-clause-bad_byte
unfolding read finish term whole abstraction product arrows app applied atoms atoms_from atom parenthesized constant arguments arguments_from binder label_at level_of expect eat is_kind lexemes token
returns-clause-bad_byte c = refl

pub returns-clause-leading_zero : goal.returns-clause-leading_zero
unfolding read finish term whole abstraction product arrows app applied atoms atoms_from atom parenthesized constant arguments arguments_from binder label_at level_of expect eat is_kind lexemes token
returns-clause-leading_zero c = refl

pub returns-clause-leading_zero_of_many : goal.returns-clause-leading_zero_of_many
unfolding read finish term whole abstraction product arrows app applied atoms atoms_from atom parenthesized constant arguments arguments_from binder label_at level_of expect eat is_kind lexemes token
returns-clause-leading_zero_of_many c = refl

pub returns-clause-long_level : goal.returns-clause-long_level
unfolding read finish term whole abstraction product arrows app applied atoms atoms_from atom parenthesized constant arguments arguments_from binder label_at level_of expect eat is_kind lexemes token
returns-clause-long_level c = refl

pub returns-clause-no_digit : goal.returns-clause-no_digit
unfolding read finish term whole abstraction product arrows app applied atoms atoms_from atom parenthesized constant arguments arguments_from binder label_at level_of expect eat is_kind lexemes token
returns-clause-no_digit c = refl

pub returns-clause-call_for_a_name : goal.returns-clause-call_for_a_name
unfolding read finish term whole abstraction product arrows app applied atoms atoms_from atom parenthesized constant arguments arguments_from binder label_at level_of expect eat is_kind lexemes token
returns-clause-call_for_a_name c = refl

pub returns-clause-too_deep : goal.returns-clause-too_deep
unfolding read finish term whole abstraction product arrows app applied atoms atoms_from atom parenthesized constant arguments arguments_from binder label_at level_of expect eat is_kind lexemes token
returns-clause-too_deep c = refl
