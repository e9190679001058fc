use Rattle.std.proofs.Common.{refl}
use Rattle.std.specs.Fmt.{digits}
use Rattle.json.specs.Print.{escape_byte}
use Rattle.term_syntax.specs.Lex.{token, lexemes}
use Rattle.term_syntax.specs.Kinds.{is_kind}
use Rattle.term_syntax.specs.Reading.{read as read_term, finish as finish_term, term, whole, abstraction, product, arrows, app, applied, atoms, atoms_from, atom, parenthesized, constant, arguments, arguments_from, binder, label_at, expect, eat}
use Rattle.term_syntax.specs.Grammar.{level_of}
use Rattle.move_text.specs.Reading.{read as read_move, finish, form, name}
use Rattle.move_set.specs.Moves.{moved}
use Rattle.reply_text.specs.Refusals.{scoping}
use Rattle.reply_text.specs.Shown.{term_json}
use Rattle.reply_text.specs.Context.{shown_names, context_json}
use Rattle.state_print.specs.Pieces.{goals_json, dormant_json, proof_json, theorem_json}
use Rattle.command_set.specs.Goals.{start, move_refusal}
use Rattle.command_set.proofs.goal_examples.session_computes.Goals as goal

pub returns-clause-start : goal.returns-clause-start
unfolding goals_json dormant_json proof_json theorem_json term_json shown_names context_json escape_byte digits
returns-clause-start c = refl

pub returns-clause-start_fuel : goal.returns-clause-start_fuel
unfolding goals_json dormant_json proof_json theorem_json term_json shown_names context_json escape_byte digits
returns-clause-start_fuel c = refl

pub returns-clause-start_unknown : goal.returns-clause-start_unknown
unfolding scoping escape_byte digits
returns-clause-start_unknown c = refl

pub returns-clause-start_syntax : goal.returns-clause-start_syntax
unfolding start read_term finish_term term whole abstraction product arrows app applied atoms atoms_from atom parenthesized constant arguments arguments_from binder label_at level_of expect eat is_kind lexemes token escape_byte digits
returns-clause-start_syntax c = refl

pub returns-clause-intro : goal.returns-clause-intro
unfolding moved read_move finish form name term whole abstraction product arrows app applied atoms atoms_from atom parenthesized constant arguments arguments_from binder label_at level_of expect eat is_kind lexemes token goals_json dormant_json proof_json theorem_json term_json shown_names context_json escape_byte digits
returns-clause-intro c = refl

pub returns-clause-taken : goal.returns-clause-taken
unfolding move_refusal moved read_move finish form name term whole abstraction product arrows app applied atoms atoms_from atom parenthesized constant arguments arguments_from binder label_at level_of expect eat is_kind lexemes token escape_byte digits
returns-clause-taken c = refl

pub returns-clause-again : goal.returns-clause-again
unfolding moved read_move finish form name term whole abstraction product arrows app applied atoms atoms_from atom parenthesized constant arguments arguments_from binder label_at level_of expect eat is_kind lexemes token goals_json dormant_json proof_json theorem_json term_json shown_names context_json escape_byte digits
returns-clause-again c = refl

pub returns-clause-print : goal.returns-clause-print
unfolding goals_json dormant_json proof_json theorem_json term_json shown_names context_json escape_byte digits
returns-clause-print c = refl
