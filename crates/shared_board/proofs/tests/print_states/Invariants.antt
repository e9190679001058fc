use Rattle.state_tree.specs.Toy.{toy_value}
use Rattle.shared_board.specs.Boards.{IsBoardPassOf}
use Rattle.shared_board.proofs.tests.print_states.Given as goal

abbrev pub invariant-loop-state : goal.invariant-loop-state
invariant-loop-state g l = IsBoardPassOf toy_value l.board l.pass
