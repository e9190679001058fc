use Rattle.state_tree.specs.Toy.{toy_value}
use Rattle.shared_board.specs.Boards.{IsBoardPassOf}
use Rattle.shared_board.proofs.tests.make_states.Given as goal

abbrev pub invariant-loop-id : goal.invariant-loop-id
invariant-loop-id g l = IsBoardPassOf toy_value l.board l.pass
