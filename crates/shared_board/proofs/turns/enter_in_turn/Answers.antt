use Rattle.std.proofs.Common.{ap, sym, ◌∙◌}
use Rattle.shared_board.proofs.AtTurns.{held_at, sees_entered}
use Rattle.shared_board.proofs.turns.enter_in_turn.Goals as goal

pub turn-requires-clause-calls : goal.turn-requires-clause-calls
turn-requires-clause-calls g c κs within = λ x finds p is. (
  rw is (held_at g.W.Work.value c.args.shared.now.the_ground x.tree c.args.pass.now.seen finds.more.more c.args.ready.request.ask c.args.ready.found finds.same finds.more.is c.requires.held),
  c.requires.bad,
)

pub returns-clause-same : goal.returns-clause-same
returns-clause-same g c =
    let turn = c.in_ok-outcome.ensures in
    let call = turn.ok.3 in
    sees_entered g.W.Work.value call.shown.now.tree call.left.now.tree c.number-number.result c.args.ready c.in_ok-outcome.outcome c.args.pass.now c.turn.new.pass turn.ok.0.tree.journal
    call.met.0 (ap (λ t. t.tree.journal) call.shows) (turn.ok.4 ∙ sym (ap (λ t. t.tree.journal) call.leaves)) turn.same turn.later turn.ok.2.more
