use Rattle.std.proofs.Common.{◌+◌, ◌++◌, ap, sym, ◌∙◌}
use Rattle.std.specs.Prelude.{codes}
use Rattle.session_maker.specs.Session.{intro_lines, move_line, hypothesis}
use Rattle.session_maker.proofs.Rounds.{intro_lines_next}
use Rattle.session_maker.proofs.Texts.{joined}
use Rattle.session_maker.proofs.lines.push_intros.Goals as goal

pub loop-done-preserved : goal.loop-done-preserved
loop-done-preserved c =
    let start = c.args.start in
    let done = c.loop-done.done in
    joined c.args.text.now.items c.loop-done.text.items c.push_intro.new.text.items (intro_lines start done) (move_line (start + done + 1) (codes "intro " ++ hypothesis (done + 1))) c.loop-done.invariant c.in_ok-push_intro.ensures
    ∙ ap (λ l. c.args.text.now.items ++ l) (sym (intro_lines_next start done))
