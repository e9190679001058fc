use Rattle.std.proofs.Common.{refl}
use Rattle.term_syntax.specs.Lex.{token, lexemes}
use Rattle.term_syntax.specs.Kinds.{is_kind}
use Rattle.term_syntax.specs.Reading.{term, whole, abstraction, product, arrows, app, applied, atoms, atoms_from, atom, parenthesized, constant, arguments, arguments_from, binder, label_at, expect, eat}
use Rattle.term_syntax.specs.Grammar.{level_of}
use Rattle.move_text.specs.Reading.{read, finish, form, name}
use Rattle.elaboration.proofs.Equations.{is_star, is_asked, is_named, is_applied, is_function, none_more, one_more}
use Rattle.move_set.specs.Moves.{moved}
use Rattle.move_set.proofs.Worked.{settles, refuses_asked}
use Rattle.move_set.proofs.examples.moves_compute.Goals as goal

pub returns-clause-intro : goal.returns-clause-intro
unfolding moved read finish form name term whole abstraction product arrows app applied atoms atoms_from atom parenthesized constant arguments arguments_from binder label_at level_of expect eat is_kind lexemes token
returns-clause-intro c = refl

pub returns-clause-again : goal.returns-clause-again
unfolding moved read finish form name term whole abstraction product arrows app applied atoms atoms_from atom parenthesized constant arguments arguments_from binder label_at level_of expect eat is_kind lexemes token
returns-clause-again c = refl

pub returns-clause-taken : goal.returns-clause-taken
unfolding moved read finish form name term whole abstraction product arrows app applied atoms atoms_from atom parenthesized constant arguments arguments_from binder label_at level_of expect eat is_kind lexemes token
returns-clause-taken c = refl

pub returns-clause-too_few : goal.returns-clause-too_few
unfolding moved read finish form name term whole abstraction product arrows app applied atoms atoms_from atom parenthesized constant arguments arguments_from binder label_at level_of expect eat is_kind lexemes token
returns-clause-too_few c = refl

pub returns-clause-syntax : goal.returns-clause-syntax
unfolding moved read finish form name term whole abstraction product arrows app applied atoms atoms_from atom parenthesized constant arguments arguments_from binder label_at level_of expect eat is_kind lexemes token
returns-clause-syntax c = refl

pub returns-clause-no_goal : goal.returns-clause-no_goal
unfolding moved read finish form name term whole abstraction product arrows app applied atoms atoms_from atom parenthesized constant arguments arguments_from binder label_at level_of expect eat is_kind lexemes token
returns-clause-no_goal c = refl

pub returns-clause-exact : goal.returns-clause-exact
unfolding read finish form name term whole abstraction product arrows app applied atoms atoms_from atom parenthesized constant arguments arguments_from binder label_at level_of expect eat is_kind lexemes token
returns-clause-exact c = settles _ _ _ _ _ refl refl is_named refl refl

pub returns-clause-misfit : goal.returns-clause-misfit
unfolding read finish form name term whole abstraction product arrows app applied atoms atoms_from atom parenthesized constant arguments arguments_from binder label_at level_of expect eat is_kind lexemes token
returns-clause-misfit c = settles _ _ _ _ _ refl refl is_named refl refl

pub returns-clause-unknown : goal.returns-clause-unknown
unfolding read finish form name term whole abstraction product arrows app applied atoms atoms_from atom parenthesized constant arguments arguments_from binder label_at level_of expect eat is_kind lexemes token
returns-clause-unknown c = settles _ _ _ _ _ refl refl is_named refl refl

pub returns-clause-asked : goal.returns-clause-asked
unfolding read finish form name term whole abstraction product arrows app applied atoms atoms_from atom parenthesized constant arguments arguments_from binder label_at level_of expect eat is_kind lexemes token
returns-clause-asked c = refuses_asked _ _ _ _ _ _ refl refl is_asked refl refl

pub returns-clause-written : goal.returns-clause-written
unfolding read finish form name term whole abstraction product arrows app applied atoms atoms_from atom parenthesized constant arguments arguments_from binder label_at level_of expect eat is_kind lexemes token
returns-clause-written c = settles _ _ _ _ _ refl refl (is_applied (is_function is_star (is_function is_named is_named)) (one_more is_named (one_more is_named none_more))) refl refl
