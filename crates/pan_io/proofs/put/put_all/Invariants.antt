use Rattle.std.proofs.Common.{◌≡◌, ℕ, ◌≤◌, List, ◌++◌, length, is_some}
use Rattle.std.specs.Io.KnownBytes.{Appends}
use Rattle.pan_io.proofs.put.put_all.Given as goal

abbrev pub invariant-pieces : goal.invariant-pieces
invariant-pieces g l = record {
  taken : (prefix : List ℕ) × (l.fn.piece ≡ prefix ++ l.rest) × Appends (g.K.Sink.taken l.fn.sink) (g.K.Sink.taken l.sink) prefix;
  tells : is_some (g.K.Sink.taken l.sink) ≡ is_some (g.K.Sink.taken l.fn.sink);
  later : g.K.Sink.faults l.fn.sink ≤ g.K.Sink.faults l.sink;
}

abbrev pub decreases-pieces : goal.decreases-pieces
decreases-pieces g l = length l.rest
