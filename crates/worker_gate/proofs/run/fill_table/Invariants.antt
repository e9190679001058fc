use Rattle.std.proofs.Common.{◌≡◌, ℕ, ◌<◌, ◌++◌, get_or, [], map, length}
use Rattle.std.specs.List.{Contains}
use Rattle.worker_gate.specs.Results.{Right, Written}
use Rattle.worker_gate.specs.Rows.{put_of}
use Rattle.worker_gate.proofs.run.fill_table.Given as goal

abbrev pub invariant-loop-own : goal.invariant-loop-own
invariant-loop-own g l = record {
  left : l.fn.owns.items ≡ l.yielded ++ l.own-iterator.rest.items;
  right : Right g.K.Batch.jobs g.J.Job.gives g.K.Batch.told l.table;
  full : (k p : ℕ) → k < length l.yielded → Contains (get_or (map (λ o. put_of o.deque) l.yielded) k []) p → Written l.table p;
}
