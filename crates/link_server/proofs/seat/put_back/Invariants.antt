use Rattle.std.proofs.Common.{◌≡◌, ◌≤◌, ◌+◌, ◌++◌, length, vec_len, vec_capacity}
use Rattle.link_server.proofs.seat.put_back.Given as goal

abbrev pub invariant-loop-pass : goal.invariant-loop-pass
invariant-loop-pass g l = record {
  left : l.fn.waiting.items ≡ l.yielded ++ l.pass-iterator.rest.items;
  passes : l.passes.items ≡ l.fn.passes.items ++ l.yielded;
  room : vec_len l.passes + length l.pass-iterator.rest.items ≤ vec_capacity l.passes;
}
