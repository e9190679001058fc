use Rattle.std.proofs.Common.{◌≡◌, map}
use Rattle.std.specs.List.{All}
use Rattle.crossbeam_deque.specs.Handles.{stealer_deque}
use Rattle.worker_gate.specs.Results.{AllGave}
use Rattle.worker_gate.proofs.seat.round.Given as goal

abbrev pub invariant-loop-step : goal.invariant-loop-step
invariant-loop-step g l = record {
  same : map (λ r. stealer_deque r.stealer) l.row ≡ map (λ r. stealer_deque r.stealer) l.initial.row;
  gave : All (λ r. AllGave g.K.Batch.jobs g.J.Job.gives g.K.Batch.told r.answers.items) l.row;
}
