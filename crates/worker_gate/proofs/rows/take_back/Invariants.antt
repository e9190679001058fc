use Rattle.std.proofs.Common.{◌≡◌, ◌+◌, ◌++◌, map, length}
use Rattle.std.specs.List.{All, AllWithin}
use Rattle.worker_gate.specs.Results.{AllGave}
use Rattle.worker_gate.specs.Rows.{tag, parts}
use Rattle.worker_gate.proofs.rows.take_back.Given as goal

abbrev pub invariant-loop-steal_pass : goal.invariant-loop-steal_pass
invariant-loop-steal_pass g l = record {
  rest : l.fn.row.items ≡ l.yielded ++ l.steal_pass-iterator.rest.items;
  at_is : l.at ≡ length l.yielded;
  tags : map (λ o. tag o.deque) l.owns ≡ map (λ o. tag o.deque) l.initial.owns;
  back : AllWithin (λ o. parts o.deque ≡ l.have + 1) l.owns 0 l.at;
  out : AllWithin (λ o. parts o.deque ≡ l.have) l.owns l.at (length l.owns);
  gave : All (λ o. AllGave g.K.Batch.jobs g.J.Job.gives g.K.Batch.told o.answers.items) l.owns;
}
