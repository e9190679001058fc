use Rattle.std.proofs.Common.{◌≡◌, ◌-◌, map, take, length}
use Rattle.std.specs.List.{All, AllWithin}
use Rattle.crossbeam_deque.specs.Handles.{stealer_deque, worker_deque}
use Rattle.worker_gate.specs.Results.{AllGave}
use Rattle.worker_gate.specs.Rows.{tag, parts}
use Rattle.worker_gate.proofs.rows.row_of.Given as goal

abbrev pub invariant-loop-own : goal.invariant-loop-own
invariant-loop-own g l = record {
  tags : map (λ o. tag o.deque) l.owns ≡ map (λ o. tag o.deque) l.initial.owns;
  split : AllWithin (λ o. parts o.deque ≡ l.left - 1) l.owns 0 l.own-index;
  whole : AllWithin (λ o. parts o.deque ≡ l.left) l.owns l.own-index (length l.owns);
  gave : All (λ o. AllGave g.K.Batch.jobs g.J.Job.gives g.K.Batch.told o.answers.items) l.owns;
  row : map (λ r. stealer_deque r.stealer) l.row.items ≡ take l.own-index (map (λ o. worker_deque o.deque) l.initial.owns);
  row_gave : All (λ r. AllGave g.K.Batch.jobs g.J.Job.gives g.K.Batch.told r.answers.items) l.row.items;
}
