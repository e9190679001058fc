use Rattle.std.proofs.Common.{[], ◌∷◌}
use Rattle.meta_context.proofs.Entering.{both_entered}
use Rattle.meta_context.proofs.walk.enter_two.Goals as goal

pub returns-clause-entered : goal.returns-clause-entered
returns-clause-entered g c = both_entered (c.args.a ∷ []) (c.args.b ∷ []) _ _ _ _ _ _ c.in_ok-enter.ensures.entered c.in_ok-enter-2.ensures.entered
