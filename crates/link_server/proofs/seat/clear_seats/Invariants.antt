use Rattle.std.proofs.Common.{◌≡◌, ◌≤◌, ◌+◌, ◌++◌, length, map, reverse, vec_len, vec_capacity}
use Rattle.link_server.specs.Seats.{served_at}
use Rattle.link_server.proofs.seat.clear_seats.Given as goal

abbrev pub invariant-loop-seat : goal.invariant-loop-seat
invariant-loop-seat g l = record {
  left : reverse l.fn.seats.items ≡ l.yielded ++ l.seat-iterator.rest.items;
  passes : l.passes.items ≡ l.fn.passes.items ++ map (λ seat. seat.pass) l.yielded;
  served : l.served.items ≡ l.fn.served.items ++ map served_at l.yielded;
  capacity : vec_capacity l.passes ≡ vec_capacity l.fn.passes;
  room : vec_len l.passes + length l.seat-iterator.rest.items ≤ vec_capacity l.passes;
  served_room : vec_len l.served + length l.seat-iterator.rest.items ≤ vec_capacity l.served;
}
