use Rattle.std.proofs.Common.{◌+◌, ◌++◌, ap, ◌∙◌}
use Rattle.std.specs.Prelude.{codes}
use Rattle.session_maker.specs.Session.{start_line, move_line, intro_lines, tries_line, print_line, delete_line}
use Rattle.session_maker.proofs.Rounds.{round_is}
use Rattle.session_maker.proofs.Texts.{joined}
use Rattle.session_maker.proofs.lines.push_round.Goals as goal

pub returns : goal.returns
returns c =
    let old = c.args.text.now.items in
    let first = c.args.start in
    let arrows = c.arrow_count-arrows.result in
    let chosen = c.chosen_hypothesis-chosen.result in
    let start = start_line arrows in
    let type = move_line first (codes "intro A") in
    let intros = intro_lines first arrows in
    let tries = tries_line (first + arrows + 1) chosen in
    let print = print_line (first + arrows + 3) in
    let two = joined old c.push_start.new.text.items c.push_intro_type.new.text.items start type c.in_ok-push_start.ensures c.in_ok-push_intro_type.ensures in
    let three = joined old c.push_intro_type.new.text.items c.push_intros.new.text.items (start ++ type) intros two c.in_ok-push_intros.ensures in
    let four = joined old c.push_intros.new.text.items c.push_tries.new.text.items (start ++ type ++ intros) tries three c.in_ok-push_tries.ensures in
    let five = joined old c.push_tries.new.text.items c.push_print.new.text.items (start ++ type ++ intros ++ tries) print four c.in_ok-push_print.ensures in
    joined old c.push_print.new.text.items c.push_delete.new.text.items (start ++ type ++ intros ++ tries ++ print) (delete_line first) five c.in_ok-push_delete.ensures
    ∙ ap (λ l. old ++ l) (round_is first c.args.drawn arrows chosen c.arrow_count-arrows.ensures.value c.chosen_hypothesis-chosen.ensures)
