-- Each move is what its text is elaborated as; its reply is then computed.
use Rattle.std.proofs.Common.{◌≡◌, refl, ap, codes, true}
use Rattle.std.specs.Fmt.{digits}
use Rattle.json.specs.Print.{escape_byte}
use Rattle.ld_trees.specs.Term.{Star, Var, Pi}
use Rattle.term_syntax.specs.Lex.{token, lexemes}
use Rattle.term_syntax.specs.Kinds.{is_kind}
use Rattle.term_syntax.specs.Reading.{term, whole, abstraction, product, arrows, app, applied, atoms, atoms_from, atom, parenthesized, constant, arguments, arguments_from, binder, label_at, expect, eat}
use Rattle.term_syntax.specs.Grammar.{level_of}
use Rattle.unification.specs.Steps.{Gave, Refused}
use Rattle.unification.specs.Refusals.{Mismatch}
use Rattle.elaboration.specs.Refusals.{Unify, NoExpected}
use Rattle.elaboration.proofs.Equations.{is_asked, is_wild, is_named, is_function}
use Rattle.move_text.specs.Reading.{read, finish, form, name}
use Rattle.move_set.specs.Refusals.{Elab, Unsolved}
use Rattle.move_set.specs.Moves.{moved}
use Rattle.move_set.proofs.Worked.{refines, settles, applies, refuses_asked}
use Rattle.state_print.specs.Examples.{one_entry, two_entries, proved}
use Rattle.state_print.specs.Pieces.{goals_json, dormant_json, proof_json, theorem_json}
use Rattle.reply_text.specs.Refusals.{kernel}
use Rattle.reply_text.specs.Shown.{term_json}
use Rattle.reply_text.specs.Context.{shown_names, context_json}
use Rattle.command_set.specs.Examples.{refined, applied as after_apply}
use Rattle.command_set.specs.Goals.{made, move_refusal}
use Rattle.command_set.proofs.goal_examples.moves_compute.Goals as goal

exact_gives : moved two_entries 0 (codes "exact x") 100000 true ≡ Gave proved 99998
unfolding read finish form name term whole abstraction product arrows app applied atoms atoms_from atom parenthesized constant arguments arguments_from binder label_at level_of expect eat is_kind lexemes token
exact_gives = settles _ _ _ _ _ refl refl is_named refl refl

pub returns-clause-exact : goal.returns-clause-exact
unfolding goals_json dormant_json proof_json theorem_json term_json shown_names context_json escape_byte digits
returns-clause-exact c = ap made exact_gives

refine_gives : moved two_entries 0 (codes "refine ?") 100000 true ≡ Gave refined 99995
unfolding read finish form name term whole abstraction product arrows app applied atoms atoms_from atom parenthesized constant arguments arguments_from binder label_at level_of expect eat is_kind lexemes token
refine_gives = refines _ _ _ _ _ refl refl is_asked refl

pub returns-clause-refine : goal.returns-clause-refine
unfolding goals_json dormant_json proof_json theorem_json term_json shown_names context_json escape_byte digits
returns-clause-refine c = ap made refine_gives

apply_gives : moved two_entries 0 (codes "apply fun (y : A) => y") 100000 true ≡ Gave after_apply 99987
unfolding read finish form name term whole abstraction product arrows app applied atoms atoms_from atom parenthesized constant arguments arguments_from binder label_at level_of expect eat is_kind lexemes token
apply_gives = applies _ _ _ _ _ refl refl (is_function is_named is_named) refl

pub returns-clause-apply : goal.returns-clause-apply
unfolding goals_json dormant_json proof_json theorem_json term_json shown_names context_json escape_byte digits
returns-clause-apply c = ap made apply_gives

mismatch_gives : moved one_entry 0 (codes "exact A") 100000 true ≡ Refused (Elab (Unify (Mismatch 1 Star (Pi (Var 0) (Var 1))))) 99998
unfolding read finish form name term whole abstraction product arrows app applied atoms atoms_from atom parenthesized constant arguments arguments_from binder label_at level_of expect eat is_kind lexemes token
mismatch_gives = settles _ _ _ _ _ refl refl is_named refl refl

pub returns-clause-mismatch : goal.returns-clause-mismatch
unfolding move_refusal kernel term_json escape_byte digits
returns-clause-mismatch c = ap made mismatch_gives

asked_gives : moved two_entries 0 (codes "exact ?") 100000 true ≡ Refused (Unsolved 6) 100000
unfolding read finish form name term whole abstraction product arrows app applied atoms atoms_from atom parenthesized constant arguments arguments_from binder label_at level_of expect eat is_kind lexemes token
asked_gives = refuses_asked _ _ _ _ _ _ refl refl is_asked refl refl

pub returns-clause-asked : goal.returns-clause-asked
unfolding move_refusal escape_byte digits
returns-clause-asked c = ap made asked_gives

hole_gives : moved two_entries 0 (codes "refine _") 100000 true ≡ Refused (Unsolved 7) 99995
unfolding read finish form name term whole abstraction product arrows app applied atoms atoms_from atom parenthesized constant arguments arguments_from binder label_at level_of expect eat is_kind lexemes token
hole_gives = refines _ _ _ _ _ refl refl is_wild refl

pub returns-clause-hole : goal.returns-clause-hole
unfolding move_refusal escape_byte digits
returns-clause-hole c = ap made hole_gives

no_expected_gives : moved two_entries 0 (codes "apply ?") 100000 true ≡ Refused (Elab (NoExpected 6)) 99999
unfolding read finish form name term whole abstraction product arrows app applied atoms atoms_from atom parenthesized constant arguments arguments_from binder label_at level_of expect eat is_kind lexemes token
no_expected_gives = applies _ _ _ _ _ refl refl is_asked refl

pub returns-clause-no_expected : goal.returns-clause-no_expected
unfolding move_refusal escape_byte digits
returns-clause-no_expected c = ap made no_expected_gives
