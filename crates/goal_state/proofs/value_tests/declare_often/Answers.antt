use Rattle.std.proofs.Common.{All, subst, sym}
use Rattle.conversion.specs.Globals.{IsDeclOf}
use Rattle.goal_state.proofs.Declared.{declared_held}
use Rattle.goal_state.proofs.value_tests.declare_often.Goals as goal

pub loop-preserved : goal.loop-preserved
loop-preserved g c =
    let h = g.T.Terms.holds c.args.terms.now in
    subst (All (IsDeclOf h)) (sym c.in_ok-more.ensures.2) (declared_held h c.args.ctx.now c.args.ty c.loop.metas c.loop.invariant c.requires.ctx c.requires.ty)
