use Rattle.std.proofs.Common.{◌∙◌}
use Rattle.state_print.proofs.Needs.{needs_more}
use Rattle.goal_state.specs.StoredState.{plain_state}
use Rattle.state_print.proofs.couplings.all_needs.Goals as goal

pub loop-m-preserved : goal.loop-m-preserved
loop-m-preserved g c =
    c.in_ok-push.ensures.items
    ∙ needs_more (plain_state g.T.Terms.means c.args.state.now).metas c.loop-m.m c.loop-m.all.items c.in_ok-need_if_open.field-0 c.loop-m.invariant c.in_ok-need_if_open.ensures
