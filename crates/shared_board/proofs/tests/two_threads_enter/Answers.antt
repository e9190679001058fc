use denote.Param.Send.{sendable}
use denote.Param.SendFields.{declared_send, as_row_send}
use Rattle.std.proofs.Crossing.{crosses}
use Rattle.shared_board.proofs.Crossing.{board_pass_send, board_sync}
use Rattle.shared_board.proofs.tests.two_threads_enter.Goals as goal

pub join-zero-requires-send-F : goal.join-zero-requires-send-F
join-zero-requires-send-F g c κs within = search (board_pass_send, board_sync, sendable, declared_send, as_row_send, crosses) depth 20

pub join-zero-requires-send-A : goal.join-zero-requires-send-A
join-zero-requires-send-A g c κs within = search (board_pass_send, sendable, declared_send, as_row_send) depth 20
