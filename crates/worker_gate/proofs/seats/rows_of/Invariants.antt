use Rattle.std.proofs.Common.{◌≡◌, ◌-◌, map, length}
use Rattle.std.specs.List.{All}
use Rattle.crossbeam_deque.specs.Handles.{stealer_deque, worker_deque}
use Rattle.worker_gate.specs.Results.{AllGave}
use Rattle.worker_gate.specs.Rows.{tag, parts}
use Rattle.worker_gate.proofs.seats.rows_of.Given as goal

abbrev pub invariant-loop-done : goal.invariant-loop-done
invariant-loop-done g l = record {
  tags : map (λ o. tag o.deque) l.owns ≡ map (λ o. tag o.deque) l.initial.owns;
  part : All (λ o. parts o.deque ≡ 1024 - l.done) l.owns;
  gave : All (λ o. AllGave g.K.Batch.jobs g.J.Job.gives g.K.Batch.told o.answers.items) l.owns;
  len : length l.rows.items ≡ l.done;
  rows : All (λ w. map (λ r. stealer_deque r.stealer) w.items ≡ map (λ o. worker_deque o.deque) l.initial.owns) l.rows.items;
  row_gave : All (λ w. All (λ r. AllGave g.K.Batch.jobs g.J.Job.gives g.K.Batch.told r.answers.items) w.items) l.rows.items;
}
