use Rattle.std.proofs.Common.{◌≡◌, ℕ, length}
use Rattle.worker_gate.specs.Results.{Written}
use Rattle.worker_gate.proofs.table.empty_table.Given as goal

abbrev pub invariant-loop : goal.invariant-loop
invariant-loop g l = record {
  len : length l.table.items ≡ l.counter;
  empty : (p : ℕ) → Written l.table.items p → ⊥;
}
