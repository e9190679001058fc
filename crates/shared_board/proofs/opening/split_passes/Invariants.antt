use Rattle.std.proofs.Common.{◌≡◌, ◌≤◌, length, vec_capacity}
use Rattle.shared_board.specs.Opening.{AreSplit}
use Rattle.shared_board.proofs.opening.split_passes.Given as goal

abbrev pub invariant-loop-number : goal.invariant-loop-number
invariant-loop-number g l = record {
  split : AreSplit l.shared l.number l.all.items;
  length_is : length l.all.items ≡ l.number;
  room : l.fn.count ≤ vec_capacity l.all;
}
