-- A board may be shared by threads, and its passes may go to other threads.
use denote.RattleType.{RattleType}
use denote.Param.Send.{IsSend, IsSync, sendable}
use denote.Param.SendFields.{declared_send, declared_sync, as_row_send, as_row_sync}
use Rattle.std.proofs.Crossing.{crosses}
use Rattle.std.specs.declared.clone.Clone.{Ghosts as Clones}
use Rattle.state_tree.specs.declared.work.Work.{Ghosts as Works}
use Rattle.state_tree.specs.contracts.tree.Tree.{the_row as tree_row}
use Rattle.state_tree.proofs.holdings.Holdings.TheSendSync.{the_send as holdings_send}
use Rattle.shared_board.proofs.state_cache.StateCache.TheSendSync.{the_send as cache_send}
use Rattle.turn_lock.proofs.shared.Pass.TheSendSync.{the_send as pass_send}
use Rattle.turn_lock.proofs.shared.Shared.TheSendSync.{the_sync as shared_sync}
use Rattle.shared_board.specs.contracts.board_tree.BoardTree.{the_row as board_tree_row}
use Rattle.shared_board.specs.contracts.board_pass.BoardPass.{the_row as board_pass_row}
use Rattle.shared_board.specs.contracts.board.Board.{the_row as board_row}

module _ (W E S : RattleType) (work : Works W.Denot E.Denot S.Denot) (env_clone : Clones E.Denot) (state_clone : Clones S.Denot) where
  tree_send : IsSend E → IsSend S → IsSend (tree_row W E S work env_clone state_clone)
  tree_send e s = search (holdings_send, sendable, declared_send, as_row_send, crosses) depth 30

  board_tree_send : IsSend E → IsSend S → IsSend (board_tree_row W E S work env_clone state_clone)
  board_tree_send e s = let t : IsSend (tree_row W E S work env_clone state_clone) = tree_send e s in search sendable

  pub board_pass_send : IsSend E → IsSend S → IsSend (board_pass_row W E S work env_clone state_clone)
  board_pass_send e s = let t : IsSend (board_tree_row W E S work env_clone state_clone) = board_tree_send e s in search (pass_send, cache_send, sendable, declared_send, as_row_send) depth 30

  pub board_sync : IsSend E → IsSend S → IsSync (board_row W E S work env_clone state_clone)
  board_sync e s = let t : IsSend (board_tree_row W E S work env_clone state_clone) = board_tree_send e s in search (shared_sync, sendable, declared_sync, as_row_sync) depth 30
