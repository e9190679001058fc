use Rattle.std.proofs.Common.{refl}
use Rattle.std.specs.Fmt.{digits}
use Rattle.session_maker.specs.Generator.{next_number, draw, arrows, chosen}
use Rattle.session_maker.specs.Session.{start_line, move_line, tries_line, print_line, delete_line, round_text}
use Rattle.session_maker.proofs.examples.worked_session.Goals as goal

pub returns-clause-number : goal.returns-clause-number
unfolding next_number draw arrows chosen
returns-clause-number c = refl

pub returns-clause-draw : goal.returns-clause-draw
unfolding next_number draw arrows chosen
returns-clause-draw c = refl

pub returns-clause-arrows : goal.returns-clause-arrows
unfolding next_number draw arrows chosen
returns-clause-arrows c = refl

pub returns-clause-chosen : goal.returns-clause-chosen
unfolding next_number draw arrows chosen
returns-clause-chosen c = refl

pub returns-clause-text : goal.returns-clause-text
unfolding next_number draw arrows chosen start_line move_line tries_line print_line delete_line round_text digits
returns-clause-text c = refl

pub returns-clause-replies : goal.returns-clause-replies
unfolding next_number draw arrows chosen start_line move_line tries_line print_line delete_line round_text digits
returns-clause-replies c = refl

pub returns-clause-states : goal.returns-clause-states
unfolding next_number draw arrows chosen
returns-clause-states c = refl
