use Rattle.std.proofs.Common.{◌≡◌, ◌++◌, map}
use Rattle.worker_gate.proofs.seats.seats_of.Given as goal

abbrev pub invariant-loop-own : goal.invariant-loop-own
invariant-loop-own g l = record {
  left : l.fn.owns.items ≡ l.yielded ++ l.own-iterator.rest.items;
  owns : map (λ s. s.own) l.seats.items ≡ l.yielded;
  rows : l.fn.rows.items ≡ map (λ s. s.row) l.seats.items ++ l.rest.rest.items;
}
