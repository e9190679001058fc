use Rattle.std.proofs.Common.{refl}
use Rattle.term_syntax.specs.Lex.{token, lexemes}
use Rattle.term_syntax.specs.Kinds.{is_kind}
use Rattle.term_syntax.specs.Reading.{term, whole, abstraction, product, arrows, app, applied, atoms, atoms_from, atom, parenthesized, constant, arguments, arguments_from, binder, label_at, expect, eat}
use Rattle.term_syntax.specs.Grammar.{level_of}
use Rattle.move_text.specs.Reading.{read, finish, form, name}
use Rattle.move_text.proofs.laws.refusals_compute.Goals as goal

pub returns-clause-ends_early : goal.returns-clause-ends_early
unfolding read finish form name term whole abstraction product arrows app applied atoms atoms_from atom parenthesized constant arguments arguments_from binder label_at level_of expect eat is_kind lexemes token
returns-clause-ends_early c = refl

pub returns-clause-unknown_word : goal.returns-clause-unknown_word
unfolding read finish form name term whole abstraction product arrows app applied atoms atoms_from atom parenthesized constant arguments arguments_from binder label_at level_of expect eat is_kind lexemes token
returns-clause-unknown_word c = refl

pub returns-clause-call_for_a_name : goal.returns-clause-call_for_a_name
unfolding read finish form name term whole abstraction product arrows app applied atoms atoms_from atom parenthesized constant arguments arguments_from binder label_at level_of expect eat is_kind lexemes token
returns-clause-call_for_a_name c = refl

pub returns-clause-level_for_a_name : goal.returns-clause-level_for_a_name
unfolding read finish form name term whole abstraction product arrows app applied atoms atoms_from atom parenthesized constant arguments arguments_from binder label_at level_of expect eat is_kind lexemes token
returns-clause-level_for_a_name c = refl

pub returns-clause-no_colon : goal.returns-clause-no_colon
unfolding read finish form name term whole abstraction product arrows app applied atoms atoms_from atom parenthesized constant arguments arguments_from binder label_at level_of expect eat is_kind lexemes token
returns-clause-no_colon c = refl

pub returns-clause-more_behind : goal.returns-clause-more_behind
unfolding read finish form name term whole abstraction product arrows app applied atoms atoms_from atom parenthesized constant arguments arguments_from binder label_at level_of expect eat is_kind lexemes token
returns-clause-more_behind c = refl

pub returns-clause-in_the_term : goal.returns-clause-in_the_term
unfolding read finish form name term whole abstraction product arrows app applied atoms atoms_from atom parenthesized constant arguments arguments_from binder label_at level_of expect eat is_kind lexemes token
returns-clause-in_the_term c = refl

pub returns-clause-nothing : goal.returns-clause-nothing
unfolding read finish form name term whole abstraction product arrows app applied atoms atoms_from atom parenthesized constant arguments arguments_from binder label_at level_of expect eat is_kind lexemes token
returns-clause-nothing c = refl
