use Rattle.std.proofs.Common.{◌≡◌}
use Rattle.crossbeam_deque.specs.Handles.{worker_deque, worker_view}
use Rattle.worker_gate.specs.Accounts.{account}
use Rattle.worker_gate.specs.Results.{AllGave, places}
use Rattle.worker_gate.proofs.ends.OwnDeque.take_all.Given as goal

abbrev pub invariant-loop : goal.invariant-loop
invariant-loop g l = record {
  same : worker_deque l.self.deque ≡ worker_deque l.initial.self.deque;
  view_is : worker_view l.self.deque ≡ account (worker_view l.initial.self.deque).parts (worker_view l.initial.self.deque).put (places l.self.answers.items);
  gave : AllGave g.K.Batch.jobs g.J.Job.gives g.K.Batch.told l.self.answers.items;
}
