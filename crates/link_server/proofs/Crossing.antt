-- Seats may go to other threads, and what their sessions share may be shared by them.
use denote.RattleType.{RattleType}
use denote.Ref.{NamedLft}
use denote.Param.Send.{IsSend, IsSync, sendable}
use denote.Param.SendFields.{declared_send, declared_sync, as_row_send, as_row_sync}
use Rattle.std.proofs.Crossing.{crosses}
use Rattle.std.specs.declared.clone.Clone.{Ghosts as Clones}
use Rattle.state_tree.specs.declared.work.Work.{Ghosts as Works}
use Rattle.shared_board.specs.contracts.board.Board.{the_row as board_row}
use Rattle.shared_board.specs.contracts.board_pass.BoardPass.{the_row as board_pass_row}
use Rattle.shared_board.proofs.Crossing.{board_pass_send, board_sync}
use Rattle.link_server.specs.contracts.seat.Seat.{the_row as seat_row}
use Rattle.link_server.specs.contracts.seat.Hall.{the_row as hall_row}

module _ (W E S : RattleType) (work : Works W.Denot E.Denot S.Denot) (env_clone : Clones E.Denot) (state_clone : Clones S.Denot) where
  pub seat_send : (I O : RattleType) → IsSend E → IsSend S → IsSend I → IsSend O → IsSend (seat_row W I O E S work env_clone state_clone)
  seat_send I O e s i o =
      let p : IsSend (board_pass_row W E S work env_clone state_clone) = board_pass_send W E S work env_clone state_clone e s in
      search (sendable, declared_send, as_row_send, crosses) depth 30

  pub hall_sync : (κ : NamedLft) (R G : RattleType) → IsSend E → IsSend S → IsSync R → IsSync W → IsSync G → IsSync (hall_row κ R W G E S work env_clone state_clone)
  hall_sync κ R G e s r w g =
      let b : IsSync (board_row W E S work env_clone state_clone) = board_sync W E S work env_clone state_clone e s in
      search (sendable, declared_sync, as_row_sync, crosses) depth 30
