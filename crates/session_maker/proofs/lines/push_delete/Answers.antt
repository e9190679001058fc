use Rattle.session_maker.specs.Session.{delete_line}
use Rattle.session_maker.proofs.lines.push_delete.Goals as goal

pub returns : goal.returns
unfolding delete_line
returns c = c.in_ok-push_with_number.ensures
