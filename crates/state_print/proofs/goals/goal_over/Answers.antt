use Rattle.std.proofs.Common.{arith}
use Rattle.std.proofs.lemmas.Grind.{common_steps}
use Rattle.state_print.proofs.Turns.{goal_members}
use Rattle.state_print.proofs.goals.goal_over.Goals as goal

pub returns : goal.returns
returns g c = let means = g.T.Terms.means c.args.terms.now in let e = goal_members means c.args.others.now c.args.goal c.args.ctx.now (means c.args.ty) in grind (arith, common_steps)
