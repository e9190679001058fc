use Rattle.std.proofs.Common.{◌≡◌, ◌∙◌, ℕ, List, length, ap, sym}
use Rattle.goal_state.specs.State.{State, plain_metas}
use Rattle.goal_state.specs.StoredState.{plain_state}
use Rattle.pattern_unify.proofs.Meanings.{metas_length}
use Rattle.move_set.specs.Moves.{next_goals}
use Rattle.move_set.proofs.OnGoals.{next_again}
use Rattle.move_set.proofs.running.advance.Goals as goal

pub returns-in-Ok-next_state-clause-state : goal.returns-in-Ok-next_state-clause-state
returns-in-Ok-next_state-clause-state g c =
    let m0 = g.T.Terms.means c.args.state.now.terms in
    let m = g.T.Terms.means c.args.terms in
    let s = plain_state g.T.Terms.means c.args.state.now in
    let ds = c.args.moved.metas in
    let before : c.next-before.result ≡ length s.metas = c.next-before.ensures.counted ∙ ap (λ xs. length xs) c.metas.ensures ∙ sym (metas_length m0 c.args.state.now.metas) in
    let stored : c.in-Ok.goals ≡ next_goals ds (length s.metas) c.args.moved.fresh c.args.state.now.goals c.args.auto =
    (c.in-Ok.ensures ∙ ap (λ (k : ℕ). next_goals ds k c.as_slice-fresh.result.now c.goals.result.now c.args.auto) before ∙ ap (λ f. next_goals ds (length s.metas) f c.goals.result.now c.args.auto) c.as_slice-fresh.ensures
    ∙ ap (λ gs. next_goals ds (length s.metas) c.args.moved.fresh gs c.args.auto) c.goals.ensures) in
    let state : List ℕ → State = λ gs. record { items = s.items; metas = plain_metas m ds; goals = gs } in
    c.in-Ok-next_state.ensures.plain ∙ ap state (stored ∙ sym (next_again m ds (length s.metas) c.args.moved.fresh c.args.state.now.goals c.args.auto))
