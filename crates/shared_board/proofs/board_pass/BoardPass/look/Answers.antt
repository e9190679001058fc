use Rattle.std.proofs.Common.{◌≡◌, IfSome, ap, sym, ◌∙◌, subst}
use Rattle.state_tree.specs.Server.{found_in}
use Rattle.shared_board.specs.Boards.{BoardPassMeaning}
use Rattle.shared_board.specs.Calls.{tree_seen}
use Rattle.shared_board.proofs.board_pass.BoardPass.look.Goals as goal

pub returns-in-Ok-Some-clause-found : goal.returns-in-Ok-Some-clause-found
returns-in-Ok-Some-clause-found g c =
    let ask = c.args.request.now.ask in
    let found_at = λ (pass : BoardPassMeaning g.row.W-Env.Denot). found_in (tree_seen g.W.Work.value c.args.shared.now.the_ground pass.seen) ask in
    let found = c.in-Ok-Some.ensures.found c.args.shared.now.the_ground c.requires.own.1 in
    subst (λ recalled. IfSome recalled (λ f. f ≡ found_at c.args.self.now)) c.in-Ok-Some.field-0-is found ∙ ap found_at (sym c.recall.ensures.same)
