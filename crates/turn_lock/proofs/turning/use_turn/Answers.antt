use Rattle.std.proofs.Common.{◌≡◌, ap, ◌∙◌, subst}
use Rattle.turn_lock.specs.Steps.{Found, after_take}
use Rattle.turn_lock.proofs.Working.{one_slot, settles, works}
use Rattle.turn_lock.proofs.turning.use_turn.Goals as goal

pub leave_turn-requires-clause-left : goal.leave_turn-requires-clause-left
leave_turn-requires-clause-left g c =
    let took = c.await_turn.ensures.took in
    let called = c.call_on_value-answer.ensures.called in
    let same : took.0 ≡ called.0 = one_slot _ _ _ took.1 called.2 in
    let found : Found g.T.Storied.entries g.T.Storied.pass_of g.T.Storied.ground_of c.args.seat.now.me.0 called.0 = subst (λ x. Found g.T.Storied.entries g.T.Storied.pass_of g.T.Storied.ground_of c.args.seat.now.me.0 x) same took.3 in
    let view : c.call_on_value-answer.new.seat.me.0 ≡ after_take c.args.ticket (g.T.Storied.entries called.0) c.args.seat.now.me.0 = c.call_on_value-answer.ensures.seat.2 ∙ (took.2 ∙ ap (λ x. after_take c.args.ticket (g.T.Storied.entries x) c.args.seat.now.me.0) same) in
    (called.1, called.3, works _ _ _ _ _ _ _ _ _ view found (c.requires.keeps called.0 called.1 c.call_on_value-answer.result.0 found called.4) called.5)

pub returns-clause-done : goal.returns-clause-done
returns-clause-done g c =
    let took = c.await_turn.ensures.took in
    let called = c.call_on_value-answer.ensures.called in
    let same : took.0 ≡ called.0 = one_slot _ _ _ took.1 called.2 in
    let found : Found g.T.Storied.entries g.T.Storied.pass_of g.T.Storied.ground_of c.args.seat.now.me.0 called.0 = subst (λ x. Found g.T.Storied.entries g.T.Storied.pass_of g.T.Storied.ground_of c.args.seat.now.me.0 x) same took.3 in
    (called.0, called.1, found, called.4, settles (g.T.Storied.entries called.1) (g.T.Storied.entries took.0) c.args.ticket c.args.seat.now.me.0 c.call_on_value-answer.new.seat.me.0 _ (c.leave_turn.ensures.view called.1 called.3) (c.call_on_value-answer.ensures.seat.2 ∙ took.2))
