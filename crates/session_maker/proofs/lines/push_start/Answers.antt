use Rattle.std.proofs.Common.{◌++◌}
use Rattle.std.specs.Prelude.{codes}
use Rattle.session_maker.specs.Session.{repeated, start_line}
use Rattle.session_maker.proofs.Texts.{joined}
use Rattle.session_maker.proofs.lines.push_start.Goals as goal

pub returns : goal.returns
unfolding start_line
returns c =
    let old = c.args.text.now.items in
    let second = c.push_arrows.new.text.items in
    let head = codes "goal.start {\"expr\":\"(A : *) -> A" in
    let arrows = repeated (codes " -> A") c.args.arrows in
    joined old second c.extend_from_slice-2.new.self.items (head ++ arrows) (codes "\"}\n")
    (joined old c.extend_from_slice.new.self.items second head arrows c.in_ok-extend_from_slice.ensures.items c.in_ok-push_arrows.ensures)
    c.in_ok-extend_from_slice-2.ensures.items
