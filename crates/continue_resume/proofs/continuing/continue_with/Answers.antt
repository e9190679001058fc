use Rattle.std.proofs.Common.{All, sym, subst}
use Rattle.meta_context.specs.Declaring.{IsOpen}
use Rattle.goal_state.specs.State.{AreDistinct}
use Rattle.goal_state.specs.StoredState.{plain_state}
use Rattle.continue_resume.specs.Continuing.{is_shared}
use Rattle.continue_resume.proofs.Legal.{shared_active, filtered_once}
use Rattle.continue_resume.proofs.continuing.continue_with.Goals as goal

pub with_goals-requires-clause-active : goal.with_goals-requires-clause-active
with_goals-requires-clause-active g c =
    let ds = (plain_state g.T.Terms.means c.args.target.now).metas in
    let cs = (plain_state g.T.Terms.means c.args.branch.now).metas in
    subst (All (IsOpen ds)) (sym c.in_ok-goals.ensures) (shared_active ds cs c.args.branch.now.goals)

pub with_goals-requires-clause-once : goal.with_goals-requires-clause-once
with_goals-requires-clause-once g c =
    let ds = (plain_state g.T.Terms.means c.args.target.now).metas in
    let cs = (plain_state g.T.Terms.means c.args.branch.now).metas in
    subst AreDistinct (sym c.in_ok-goals.ensures) (filtered_once (is_shared ds cs) c.args.branch.now.goals c.terms-branch.ensures.legal.legal.once)
