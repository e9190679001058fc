use Rattle.std.proofs.Common.{◌++◌, ap, ◌∙◌}
use Rattle.std.specs.Prelude.{codes, decimal}
use Rattle.session_maker.specs.Session.{move_line}
use Rattle.session_maker.proofs.Texts.{spread}
use Rattle.session_maker.proofs.lines.push_intro_type.Goals as goal

pub returns : goal.returns
unfolding move_line
returns c =
    c.in_ok-push_with_number.ensures
    ∙ ap (λ l. c.args.text.now.items ++ l) (spread (codes "goal.move {\"stateId\":") (decimal c.args.state) (codes ",\"move\":\"") (codes "intro A") (codes "\"}\n"))
