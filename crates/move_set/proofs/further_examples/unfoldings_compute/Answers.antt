use Rattle.std.proofs.Common.{refl}
use Rattle.term_syntax.specs.Lex.{token, lexemes}
use Rattle.term_syntax.specs.Kinds.{is_kind}
use Rattle.term_syntax.specs.Reading.{term, whole, abstraction, product, arrows, app, applied, atoms, atoms_from, atom, parenthesized, constant, arguments, arguments_from, binder, label_at, expect, eat}
use Rattle.term_syntax.specs.Grammar.{level_of}
use Rattle.move_text.specs.Reading.{read, finish, form, name}
use Rattle.elaboration.proofs.Equations.{is_named, is_applied, none_more, one_more}
use Rattle.move_set.specs.Moves.{moved}
use Rattle.move_set.proofs.Worked.{applies}
use Rattle.move_set.proofs.further_examples.unfoldings_compute.Goals as goal

pub returns-clause-doubled : goal.returns-clause-doubled
unfolding moved read finish form name term whole abstraction product arrows app applied atoms atoms_from atom parenthesized constant arguments arguments_from binder label_at level_of expect eat is_kind lexemes token
returns-clause-doubled c = (_, refl)

pub returns-clause-introduced : goal.returns-clause-introduced
unfolding moved read finish form name term whole abstraction product arrows app applied atoms atoms_from atom parenthesized constant arguments arguments_from binder label_at level_of expect eat is_kind lexemes token
returns-clause-introduced c = (_, refl)

pub returns-clause-proved : goal.returns-clause-proved
unfolding read finish form name term whole abstraction product arrows app applied atoms atoms_from atom parenthesized constant arguments arguments_from binder label_at level_of expect eat is_kind lexemes token
returns-clause-proved c = applies _ _ _ _ _ refl refl (is_applied is_named (one_more is_named none_more)) refl

pub returns-clause-value : goal.returns-clause-value
returns-clause-value c = refl

pub returns-clause-seven : goal.returns-clause-seven
unfolding moved read finish form name term whole abstraction product arrows app applied atoms atoms_from atom parenthesized constant arguments arguments_from binder label_at level_of expect eat is_kind lexemes token
returns-clause-seven c = refl

pub returns-clause-six : goal.returns-clause-six
unfolding moved read finish form name term whole abstraction product arrows app applied atoms atoms_from atom parenthesized constant arguments arguments_from binder label_at level_of expect eat is_kind lexemes token
returns-clause-six c = refl

pub returns-clause-within : goal.returns-clause-within
unfolding moved read finish form name term whole abstraction product arrows app applied atoms atoms_from atom parenthesized constant arguments arguments_from binder label_at level_of expect eat is_kind lexemes token
returns-clause-within c = (_, refl)

pub returns-clause-undefined : goal.returns-clause-undefined
unfolding moved read finish form name term whole abstraction product arrows app applied atoms atoms_from atom parenthesized constant arguments arguments_from binder label_at level_of expect eat is_kind lexemes token
returns-clause-undefined c = refl

pub returns-clause-primitive : goal.returns-clause-primitive
unfolding moved read finish form name term whole abstraction product arrows app applied atoms atoms_from atom parenthesized constant arguments arguments_from binder label_at level_of expect eat is_kind lexemes token
returns-clause-primitive c = refl

pub returns-clause-absent : goal.returns-clause-absent
unfolding moved read finish form name term whole abstraction product arrows app applied atoms atoms_from atom parenthesized constant arguments arguments_from binder label_at level_of expect eat is_kind lexemes token
returns-clause-absent c = refl

pub returns-clause-short : goal.returns-clause-short
unfolding moved read finish form name term whole abstraction product arrows app applied atoms atoms_from atom parenthesized constant arguments arguments_from binder label_at level_of expect eat is_kind lexemes token
returns-clause-short c = refl
