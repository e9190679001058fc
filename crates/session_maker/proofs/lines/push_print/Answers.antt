use Rattle.session_maker.specs.Session.{print_line}
use Rattle.session_maker.proofs.lines.push_print.Goals as goal

pub returns : goal.returns
unfolding print_line
returns c = c.in_ok-push_with_number.ensures
