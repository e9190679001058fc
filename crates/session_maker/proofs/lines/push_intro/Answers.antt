use Rattle.std.specs.Prelude.{codes, decimal}
use Rattle.session_maker.specs.Session.{move_line}
use Rattle.session_maker.proofs.Texts.{named}
use Rattle.session_maker.proofs.lines.push_intro.Goals as goal

pub returns : goal.returns
unfolding move_line
returns c =
    named c.args.text.now.items c.push_with_number.new.text.items c.push_with_number-2.new.text.items
    (codes "goal.move {\"stateId\":") (decimal c.args.state) (codes ",\"move\":\"") (codes "intro x") (decimal c.args.index) (codes "\"}\n")
    c.in_ok-push_with_number.ensures c.in_ok-push_with_number-2.ensures
