use Rattle.std.proofs.lemmas.Result.{IfOk-weaker}
use Rattle.session_server.proofs.AtBoards.{there_at}
use Rattle.session_server.proofs.desk.AtBoardDesk.enter.Goals as goal

pub returns-clause-entered : goal.returns-clause-entered
returns-clause-entered g c =
    IfOk-weaker c.enter.result _ _ (λ outcome after. there_at g.W.Work.value c.args.self.now.board.now.lock.the_ground c.args.self.now.number c.args.pass.now c.enter.new.pass c.args.ready outcome c.requires.own.2 after)
    c.enter.ensures.entered
