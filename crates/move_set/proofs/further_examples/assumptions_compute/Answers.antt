use Rattle.std.proofs.Common.{refl}
use Rattle.term_syntax.specs.Lex.{token, lexemes}
use Rattle.term_syntax.specs.Kinds.{is_kind}
use Rattle.term_syntax.specs.Reading.{term, whole, abstraction, product, arrows, app, applied, atoms, atoms_from, atom, parenthesized, constant, arguments, arguments_from, binder, label_at, expect, eat}
use Rattle.term_syntax.specs.Grammar.{level_of}
use Rattle.move_text.specs.Reading.{read, finish, form, name}
use Rattle.move_set.specs.Moves.{moved}
use Rattle.move_set.proofs.further_examples.assumptions_compute.Goals as goal

pub returns-clause-last : goal.returns-clause-last
unfolding moved read finish form name term whole abstraction product arrows app applied atoms atoms_from atom parenthesized constant arguments arguments_from binder label_at level_of expect eat is_kind lexemes token
returns-clause-last c = refl

pub returns-clause-short : goal.returns-clause-short
unfolding moved read finish form name term whole abstraction product arrows app applied atoms atoms_from atom parenthesized constant arguments arguments_from binder label_at level_of expect eat is_kind lexemes token
returns-clause-short c = refl

pub returns-clause-given_up : goal.returns-clause-given_up
unfolding moved read finish form name term whole abstraction product arrows app applied atoms atoms_from atom parenthesized constant arguments arguments_from binder label_at level_of expect eat is_kind lexemes token
returns-clause-given_up c = (_, refl)

pub returns-clause-none : goal.returns-clause-none
unfolding moved read finish form name term whole abstraction product arrows app applied atoms atoms_from atom parenthesized constant arguments arguments_from binder label_at level_of expect eat is_kind lexemes token
returns-clause-none c = refl

pub returns-clause-too_few : goal.returns-clause-too_few
unfolding moved read finish form name term whole abstraction product arrows app applied atoms atoms_from atom parenthesized constant arguments arguments_from binder label_at level_of expect eat is_kind lexemes token
returns-clause-too_few c = refl
