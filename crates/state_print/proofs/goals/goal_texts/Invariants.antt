use Rattle.std.proofs.Common.{map}
use Rattle.state_print.proofs.Turns.{Shown}
use Rattle.state_print.proofs.goals.goal_texts.Given as goal

abbrev pub invariant-loop-goal : goal.invariant-loop-goal
invariant-loop-goal g l =
    Shown (g.T.Terms.holds l.state.terms) (g.T.Terms.means l.state.terms) (g.T.Terms.holds l.terms) (g.T.Terms.means l.terms) l.state.metas l.state.goals (map (λ x. x.items) l.texts.items) l.goal-index
