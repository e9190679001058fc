use Rattle.std.proofs.Common.{sym, ◌∙◌}
use Rattle.goal_state.proofs.Changes.{lists_exact}
use Rattle.goal_state.proofs.changing.are_same.Goals as goal

pub returns-in-Equal : goal.returns-in-Equal
returns-in-Equal g c t = lists_exact g.T.Handle.Ord.cmp g.met.T.Terms.exact c.args.us.now c.args.vs.now (sym c.cmp.ensures ∙ c.in-Equal.is)
