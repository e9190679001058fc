use Rattle.std.proofs.Common.{ap}
use Rattle.shared_board.proofs.GrowingViews.{kept_after}
use Rattle.shared_board.proofs.board.Board.enter.Goals as goal

pub invariant_of-pass : goal.invariant_of-pass
invariant_of-pass g c =
    let same = c.enter_in_turn.ensures.same in
    kept_after g.W.Work.value c.pass.inside.pass c.enter_in_turn.new.pass same.more c.pass.inside.cache.states.entries (ap (λ p. p.the_ground) same.same) same.view c.pass.invariant
