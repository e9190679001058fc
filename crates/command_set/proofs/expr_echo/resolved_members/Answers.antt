use Rattle.std.proofs.Common.{◌≡◌, subst, IfOk}
use Rattle.command_set.proofs.Kept.{stored_kept}
use Rattle.command_set.proofs.Echoed.{resolved_kept}
use Rattle.command_set.proofs.expr_echo.resolved_members.Goals as goal

pub inferred_members-requires-clause-stored : goal.inferred_members-requires-clause-stored
inferred_members-requires-clause-stored g c = stored_kept (g.T.Terms.holds c.args.terms.now) (g.T.Terms.means c.args.terms.now) (g.T.Terms.holds c.scope_term.new.terms) (g.T.Terms.means c.scope_term.new.terms) c.scope_term.ensures.kept c.args.items.now c.requires.stored

pub returns-in-Ok : goal.returns-in-Ok
returns-in-Ok g c =
    let m = g.T.Terms.means c.scope_term.new.terms in
    subst (λ t. IfOk c.inferred_members.result (λ x. x ≡ t))
    (resolved_kept (g.T.Terms.holds c.args.terms.now) (g.T.Terms.means c.args.terms.now) (g.T.Terms.holds c.scope_term.new.terms) m c.args.items.now c.args.units _ (m c.in-Ok.h) c.scope_term.ensures.kept c.requires.stored c.in-Ok.ensures.exact.1)
    c.inferred_members.ensures
