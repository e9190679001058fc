use Rattle.std.proofs.Common.{◌≡◌, ◌++◌, map, Ok}
use Rattle.session_server.proofs.prepare.all_made.Given as goal

abbrev pub invariant-loop-one : goal.invariant-loop-one
invariant-loop-one g l = record {
  left : l.fn.made.items ≡ l.yielded ++ l.one-iterator.rest.items;
  all : map Ok l.all.items ≡ l.yielded;
}
