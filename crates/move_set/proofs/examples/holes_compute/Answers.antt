use Rattle.std.proofs.Common.{refl}
use Rattle.term_syntax.specs.Lex.{token, lexemes}
use Rattle.term_syntax.specs.Kinds.{is_kind}
use Rattle.term_syntax.specs.Reading.{term, whole, abstraction, product, arrows, app, applied, atoms, atoms_from, atom, parenthesized, constant, arguments, arguments_from, binder, label_at, expect, eat}
use Rattle.term_syntax.specs.Grammar.{level_of}
use Rattle.move_text.specs.Reading.{read, finish, form, name}
use Rattle.elaboration.proofs.Equations.{is_wild, is_asked, is_named, is_call, none_more, one_more}
use Rattle.move_set.proofs.Worked.{refines, settles, applies}
use Rattle.move_set.proofs.examples.holes_compute.Goals as goal

pub returns-clause-refine : goal.returns-clause-refine
unfolding read finish form name term whole abstraction product arrows app applied atoms atoms_from atom parenthesized constant arguments arguments_from binder label_at level_of expect eat is_kind lexemes token
returns-clause-refine c = refines _ _ _ _ _ refl refl (is_call (one_more (is_call none_more) (one_more is_asked (one_more (is_call none_more) (one_more is_asked (one_more is_asked none_more)))))) refl

pub returns-clause-eight : goal.returns-clause-eight
unfolding read finish form name term whole abstraction product arrows app applied atoms atoms_from atom parenthesized constant arguments arguments_from binder label_at level_of expect eat is_kind lexemes token
returns-clause-eight c = settles _ _ _ _ _ refl refl (is_call none_more) refl refl

pub returns-clause-seven : goal.returns-clause-seven
unfolding read finish form name term whole abstraction product arrows app applied atoms atoms_from atom parenthesized constant arguments arguments_from binder label_at level_of expect eat is_kind lexemes token
returns-clause-seven c = settles _ _ _ _ _ refl refl (is_call none_more) refl refl

pub returns-clause-alone : goal.returns-clause-alone
unfolding read finish form name term whole abstraction product arrows app applied atoms atoms_from atom parenthesized constant arguments arguments_from binder label_at level_of expect eat is_kind lexemes token
returns-clause-alone c = settles _ _ _ _ _ refl refl (is_call none_more) refl refl

pub returns-clause-last : goal.returns-clause-last
unfolding read finish form name term whole abstraction product arrows app applied atoms atoms_from atom parenthesized constant arguments arguments_from binder label_at level_of expect eat is_kind lexemes token
returns-clause-last c = settles _ _ _ _ _ refl refl (is_call none_more) refl refl

pub returns-clause-unsolved : goal.returns-clause-unsolved
unfolding read finish form name term whole abstraction product arrows app applied atoms atoms_from atom parenthesized constant arguments arguments_from binder label_at level_of expect eat is_kind lexemes token
returns-clause-unsolved c = refines _ _ _ _ _ refl refl (is_call (one_more is_wild (one_more is_asked (one_more is_asked none_more)))) refl

pub returns-clause-types : goal.returns-clause-types
unfolding read finish form name term whole abstraction product arrows app applied atoms atoms_from atom parenthesized constant arguments arguments_from binder label_at level_of expect eat is_kind lexemes token
returns-clause-types c = refines _ _ _ _ _ refl refl (is_call (one_more is_asked (one_more is_asked (one_more is_asked none_more)))) refl

pub returns-clause-cycle : goal.returns-clause-cycle
unfolding read finish form name term whole abstraction product arrows app applied atoms atoms_from atom parenthesized constant arguments arguments_from binder label_at level_of expect eat is_kind lexemes token
returns-clause-cycle c = settles _ _ _ _ _ refl refl (is_call (one_more is_wild none_more)) refl refl

pub returns-clause-no_pattern : goal.returns-clause-no_pattern
unfolding read finish form name term whole abstraction product arrows app applied atoms atoms_from atom parenthesized constant arguments arguments_from binder label_at level_of expect eat is_kind lexemes token
returns-clause-no_pattern c = settles _ _ _ _ _ refl refl (is_call (one_more is_wild (one_more (is_call none_more) none_more))) refl refl

pub returns-clause-apply : goal.returns-clause-apply
unfolding read finish form name term whole abstraction product arrows app applied atoms atoms_from atom parenthesized constant arguments arguments_from binder label_at level_of expect eat is_kind lexemes token
returns-clause-apply c = applies _ _ _ _ _ refl refl is_named refl

pub returns-clause-prune : goal.returns-clause-prune
unfolding read finish form name term whole abstraction product arrows app applied atoms atoms_from atom parenthesized constant arguments arguments_from binder label_at level_of expect eat is_kind lexemes token
returns-clause-prune c = settles _ _ _ _ _ refl refl (is_call (one_more (is_call (one_more is_wild none_more)) none_more)) refl refl
