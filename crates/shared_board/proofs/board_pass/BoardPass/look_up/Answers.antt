use Rattle.std.proofs.Common.{ap}
use Rattle.shared_board.proofs.GrowingViews.{kept_after}
use Rattle.shared_board.proofs.board_pass.BoardPass.look_up.Goals as goal

pub invariant_of-self : goal.invariant_of-self
invariant_of-self g c =
    let same = c.look_in_turn.ensures.same in
    let inv = c.self.invariant in
    kept_after g.W.Work.value c.self.inside.pass c.look_in_turn.new.pass same.more c.self.inside.cache.states.entries (ap (λ p. p.the_ground) same.same) same.view inv
