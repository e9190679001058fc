use Rattle.std.proofs.Common.{◌≡◌, ap, ◌∙◌, sym, subst}
use Rattle.turn_lock.specs.Meanings.{Grows}
use Rattle.turn_lock.proofs.Working.{finds}
use Rattle.turn_lock.proofs.shared.Shared.turn.Goals as goal

pub use_turn-requires-clause-calls : goal.use_turn-requires-clause-calls
use_turn-requires-clause-calls g c = λ x found. c.requires.calls x (finds _ _ _ _ _ _ _ _ c.draw_ticket-ticket.result c.pass.view_is c.requires.own c.draw_ticket-ticket.ensures.view x found)

pub use_turn-requires-clause-keeps : goal.use_turn-requires-clause-keeps
use_turn-requires-clause-keeps g c = λ x y r found gave.
    let number : c.draw_ticket-ticket.new.seat.me.0.number ≡ c.args.pass.now.number = ap (λ v. v.number) c.draw_ticket-ticket.ensures.view ∙ ap (λ q. q.number) c.pass.view_is in
    subst (λ n. Grows g.T.Storied.entries g.T.Storied.pass_of g.T.Storied.ground_of n x y) (sym number)
    (c.requires.keeps x y r (finds _ _ _ _ _ _ _ _ c.draw_ticket-ticket.result c.pass.view_is c.requires.own c.draw_ticket-ticket.ensures.view x found) gave)
