use Rattle.std.proofs.Common.{◌≡◌}
use Rattle.state_tree.specs.Toy.{toy_value}
use Rattle.shared_board.specs.Boards.{IsBoardPassOf}
use Rattle.shared_board.proofs.tests.count_states.Given as goal

abbrev pub invariant-loop : goal.invariant-loop
invariant-loop g l = record {
  own : IsBoardPassOf toy_value l.board l.pass;
  same : l.pass ≡ record l.initial.pass { seen = l.pass.seen; found = l.pass.found };
}
