use Rattle.std.proofs.Common.{ℕ, ◌∙◌, sym, ap, subst, IfOk}
use Rattle.goal_state.specs.Starting.{started}
use Rattle.meta_context.specs.Plain.{plain_items}
use Rattle.state_tree.specs.Value.{Says, Gives}
use Rattle.command_set.specs.Goals.{Given, begun}
use Rattle.command_set.proofs.Begun.{start_showable}
use Rattle.command_set.proofs.goal_start.start_closed.Goals as goal

pub start_members-requires : goal.start_members-requires
start_members-requires g c = record { shown = start_showable (g.T.Terms.holds c.start.new.terms) (g.T.Terms.means c.start.new.terms) _ _ _ c.in-Err.fault c.in-Err.ensures.value }

pub returns-in-Ok : goal.returns-in-Ok
returns-in-Ok g c =
    let m = g.T.Terms.means c.args.terms in
    let run : ℕ → Given = λ n. begun (started (plain_items m c.args.items.now) (m c.args.h) n) in
    subst (λ (v : Given). IfOk c.make_state.result (λ w. Gives v w)) (sym (ap run (sym c.new-fuel.ensures) ∙ ap begun c.in-Ok.ensures.value)) c.make_state.ensures

pub returns : goal.returns
returns g c =
    let m = g.T.Terms.means c.args.terms in
    let run : ℕ → Given = λ n. begun (started (plain_items m c.args.items.now) (m c.args.h) n) in
    ap run (sym c.new-fuel.ensures)
    ∙ c.in_ok-members-in-Err.ensures _ _ _ c.in-Err.ensures.value
    ∙ ap Says (sym c.in_ok-to_body-in-Err.ensures)
