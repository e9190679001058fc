use Rattle.std.proofs.Common.{◌∙◌}
use Rattle.crossbeam_deque.specs.Handles.{stealer_deque}
use Rattle.worker_gate.specs.Results.{AllGave}
use Rattle.worker_gate.proofs.Lists.{map_set, all_set}
use Rattle.worker_gate.proofs.seat.round.Goals as goal

pub loop-step-preserved : goal.loop-step-preserved
loop-step-preserved g c = record {
  same = map_set c.loop-step.row _ c.index-row-me.result c.steal.new.self (λ r. stealer_deque r.stealer) c.steal.ensures.same ∙ c.loop-step.invariant.same;
  gave = all_set c.loop-step.row _ c.steal.new.self (λ r. AllGave g.K.Batch.jobs g.J.Job.gives g.K.Batch.told r.answers.items) c.steal.ensures.gave c.loop-step.invariant.gave;
}
