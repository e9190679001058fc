use Rattle.std.proofs.Common.{◌++◌}
use Rattle.std.specs.Prelude.{decimal}
use Rattle.session_maker.proofs.Texts.{joined}
use Rattle.session_maker.proofs.lines.push_with_number.Goals as goal

pub returns : goal.returns
returns c =
    let old = c.args.text.now.items in
    let second = c.push_number.new.text.items in
    let before = c.args.before.now in
    let number = decimal c.args.number in
    joined old second c.extend_from_slice-2.new.self.items (before ++ number) c.args.after.now
    (joined old c.extend_from_slice.new.self.items second before number c.in_ok-extend_from_slice.ensures.items c.in_ok-push_number.ensures)
    c.in_ok-extend_from_slice-2.ensures.items
