use Rattle.std.proofs.Common.{◌≡◌, ◌-◌, length}
use Rattle.crossbeam_deque.specs.Handles.{worker_view}
use Rattle.worker_gate.specs.Accounts.{account}
use Rattle.worker_gate.specs.Results.{AllGave, places}
use Rattle.worker_gate.proofs.ends.OwnDeque.finish.Given as goal

abbrev pub invariant-loop : goal.invariant-loop
invariant-loop g l = record {
  view_is : worker_view l.self.deque ≡ account 1024 (worker_view l.initial.self.deque).put (places l.self.answers.items);
  gave : AllGave g.K.Batch.jobs g.J.Job.gives g.K.Batch.told l.self.answers.items;
}

abbrev pub decreases-loop : goal.decreases-loop
decreases-loop g l = length (worker_view l.initial.self.deque).put - length l.self.answers.items
