use Rattle.std.specs.Prelude.{codes, decimal}
use Rattle.session_maker.specs.Session.{tries_line}
use Rattle.session_maker.proofs.Texts.{named}
use Rattle.session_maker.proofs.lines.push_tries.Goals as goal

pub returns : goal.returns
unfolding tries_line
returns c =
    named c.args.text.now.items c.push_with_number.new.text.items c.push_with_number-2.new.text.items
    (codes "goal.tries {\"stateId\":") (decimal c.args.state) (codes ",\"tries\":[{\"move\":\"assumption\"},{\"move\":\"exact ") (codes "x") (decimal c.args.index) (codes "\"}]}\n")
    c.in_ok-push_with_number.ensures c.in_ok-push_with_number-2.ensures
