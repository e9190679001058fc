use Rattle.std.proofs.Common.{refl, ◌∙◌, arith}
use Rattle.meta_context.proofs.Entering.{none_entered, next_entered, all_entered}
use Rattle.meta_context.proofs.walk.enter_all.Goals as goal

pub loop-h-init : goal.loop-h-init
loop-h-init g c = record { entered = none_entered _ _; met = refl }

pub loop-h-preserved : goal.loop-h-preserved
loop-h-preserved g c = record {
  entered = next_entered c.args.hs.now c.loop-h.h-index c.h-item.result _ _ _ _ _ _ (omega arith) c.h-item.is c.loop-h.invariant.entered c.in_ok-enter.ensures.entered;
  met = c.in_ok-enter.ensures.met ∙ c.loop-h.invariant.met;
}

pub returns-clause-entered : goal.returns-clause-entered
returns-clause-entered g c = all_entered c.args.hs.now c.loop-h.h-index _ _ _ _ (omega arith) c.loop-h.invariant.entered
