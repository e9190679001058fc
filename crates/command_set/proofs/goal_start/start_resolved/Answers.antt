use Rattle.std.proofs.Common.{◌∙◌, sym, ap, subst, IfOk}
use Rattle.meta_context.specs.Plain.{plain_items}
use Rattle.state_tree.specs.Value.{Says, Gives}
use Rattle.command_set.specs.Goals.{Given, says}
use Rattle.command_set.proofs.Begun.{start_kept, start_scope}
use Rattle.command_set.proofs.Kept.{stored_kept}
use Rattle.command_set.proofs.goal_start.start_resolved.Goals as goal

pub start_closed-requires-clause-stored : goal.start_closed-requires-clause-stored
start_closed-requires-clause-stored g c =
    stored_kept (g.T.Terms.holds c.args.terms) (g.T.Terms.means c.args.terms) (g.T.Terms.holds c.scope_term.new.terms) (g.T.Terms.means c.scope_term.new.terms) c.scope_term.ensures.kept c.args.items.now c.requires.stored

pub returns-in-Ok : goal.returns-in-Ok
returns-in-Ok g c =
    let m = g.T.Terms.means c.scope_term.new.terms in
    subst (λ (v : Given). IfOk c.start_closed.result (λ w. Gives v w))
    (sym (start_kept (g.T.Terms.holds c.args.terms) (g.T.Terms.means c.args.terms) (g.T.Terms.holds c.scope_term.new.terms) m c.args.items.now c.args.units _ (m c.in-Ok.h) c.scope_term.ensures.kept c.requires.stored c.in-Ok.ensures.exact.1))
    c.start_closed.ensures

pub returns-in_ok-to_body-in-Err : goal.returns-in_ok-to_body-in-Err
returns-in_ok-to_body-in-Err g c =
    start_scope (plain_items (g.T.Terms.means c.args.terms) c.args.items.now) c.args.units _ c.in-Err.fault c.in-Err.ensures.exact c.in_ok-members-in-Err.ensures.some
    ∙ ap says (sym c.in_ok-members-in-Err.ensures.value)
    ∙ ap Says (sym c.in_ok-to_body-in-Err.ensures)
