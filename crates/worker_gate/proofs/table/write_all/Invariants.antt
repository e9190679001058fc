use Rattle.std.proofs.Common.{◌≡◌, ℕ, ◌++◌}
use Rattle.std.specs.List.{Contains}
use Rattle.worker_gate.specs.Results.{Right, Written, places}
use Rattle.worker_gate.proofs.table.write_all.Given as goal

abbrev pub invariant-loop-answer : goal.invariant-loop-answer
invariant-loop-answer g l = record {
  rest : l.fn.answers.items ≡ l.yielded ++ l.answer-iterator.rest.items;
  right : Right g.K.Batch.jobs g.J.Job.gives g.K.Batch.told l.table;
  written : (p : ℕ) → Contains (places l.yielded) p → Written l.table p;
  kept : (p : ℕ) → Written l.initial.table p → Written l.table p;
}
