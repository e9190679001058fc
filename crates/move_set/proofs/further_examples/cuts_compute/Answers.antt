use Rattle.std.proofs.Common.{codes, refl}
use Rattle.term_syntax.specs.Lex.{token, lexemes}
use Rattle.term_syntax.specs.Kinds.{is_kind}
use Rattle.term_syntax.specs.Reading.{term, whole, abstraction, product, arrows, app, applied, atoms, atoms_from, atom, parenthesized, constant, arguments, arguments_from, binder, label_at, expect, eat}
use Rattle.term_syntax.specs.Grammar.{level_of}
use Rattle.move_text.specs.Reading.{read, finish, form, name}
use Rattle.elaboration.proofs.Equations.{is_asked, is_named, is_call, is_product, none_more, one_more}
use Rattle.move_set.specs.Moves.{moved}
use Rattle.move_set.proofs.WorkedTypes.{changes, cuts, change_asks, have_asks}
use Rattle.move_set.proofs.further_examples.cuts_compute.Goals as goal

pub returns-clause-cut : goal.returns-clause-cut
unfolding read finish form name term whole abstraction product arrows app applied atoms atoms_from atom parenthesized constant arguments arguments_from binder label_at level_of expect eat is_kind lexemes token
returns-clause-cut c = cuts _ _ _ _ _ (codes "y") refl refl is_named refl refl refl

pub returns-clause-fifteen : goal.returns-clause-fifteen
unfolding read finish form name term whole abstraction product arrows app applied atoms atoms_from atom parenthesized constant arguments arguments_from binder label_at level_of expect eat is_kind lexemes token
returns-clause-fifteen c = cuts _ _ _ _ _ (codes "y") refl refl is_named refl refl refl

pub returns-clause-assumed : goal.returns-clause-assumed
unfolding moved read finish form name term whole abstraction product arrows app applied atoms atoms_from atom parenthesized constant arguments arguments_from binder label_at level_of expect eat is_kind lexemes token
returns-clause-assumed c = refl

pub returns-clause-changed : goal.returns-clause-changed
unfolding read finish form name term whole abstraction product arrows app applied atoms atoms_from atom parenthesized constant arguments arguments_from binder label_at level_of expect eat is_kind lexemes token
returns-clause-changed c = changes _ _ _ _ _ refl refl (is_product (is_call (one_more is_named none_more)) (is_call none_more)) refl refl

pub returns-clause-fourteen : goal.returns-clause-fourteen
unfolding read finish form name term whole abstraction product arrows app applied atoms atoms_from atom parenthesized constant arguments arguments_from binder label_at level_of expect eat is_kind lexemes token
returns-clause-fourteen c = changes _ _ _ _ _ refl refl (is_product (is_call (one_more is_named none_more)) (is_call none_more)) refl refl

pub returns-clause-taken : goal.returns-clause-taken
unfolding moved read finish form name term whole abstraction product arrows app applied atoms atoms_from atom parenthesized constant arguments arguments_from binder label_at level_of expect eat is_kind lexemes token
returns-clause-taken c = refl

pub returns-clause-asked : goal.returns-clause-asked
unfolding read finish form name term whole abstraction product arrows app applied atoms atoms_from atom parenthesized constant arguments arguments_from binder label_at level_of expect eat is_kind lexemes token
returns-clause-asked c = have_asks _ _ _ _ _ (codes "y") 13 refl refl (is_call (one_more is_asked none_more)) refl refl refl

pub returns-clause-asked_anew : goal.returns-clause-asked_anew
unfolding read finish form name term whole abstraction product arrows app applied atoms atoms_from atom parenthesized constant arguments arguments_from binder label_at level_of expect eat is_kind lexemes token
returns-clause-asked_anew c = change_asks _ _ _ _ _ 7 refl refl is_asked refl refl
