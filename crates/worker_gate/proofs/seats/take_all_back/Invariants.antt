use Rattle.std.proofs.Common.{◌≡◌, ◌+◌, ◌-◌, ◌++◌, map, length}
use Rattle.std.specs.List.{All}
use Rattle.worker_gate.specs.Results.{AllGave}
use Rattle.worker_gate.specs.Rows.{tag, parts}
use Rattle.worker_gate.proofs.seats.take_all_back.Given as goal

abbrev pub invariant-loop-row : goal.invariant-loop-row
invariant-loop-row g l = record {
  rest : l.fn.rows.items ≡ l.yielded ++ l.row-iterator.rest.items;
  have_is : l.have ≡ 1024 - length l.initial.owns + length l.yielded;
  tags : map (λ o. tag o.deque) l.owns ≡ map (λ o. tag o.deque) l.initial.owns;
  part : All (λ o. parts o.deque ≡ l.have) l.owns;
  gave : All (λ o. AllGave g.K.Batch.jobs g.J.Job.gives g.K.Batch.told o.answers.items) l.owns;
}
