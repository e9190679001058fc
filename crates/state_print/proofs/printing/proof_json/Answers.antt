use Rattle.std.proofs.Common.{◌∙◌}
use Rattle.state_print.proofs.States.{unsolved, solved}
use Rattle.goal_state.specs.StoredState.{plain_state}
use Rattle.state_print.proofs.printing.proof_json.Goals as goal

pub returns-then-solved : goal.returns-then-solved
returns-then-solved g c =
    solved c.solved.result (plain_state g.T.Terms.means c.args.state.now) _ c.of.result c.solved.ensures c.if-solved.true c.in_ok-terms.ensures.value (c.of.ensures ∙ c.in_ok-text.ensures)

pub returns : goal.returns
returns g c = unsolved c.solved.result (plain_state g.T.Terms.means c.args.state.now) c.solved.ensures c.if-solved.false
