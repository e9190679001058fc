use Rattle.session_server.proofs.AtBoards.{others_at}
use Rattle.session_server.proofs.desk.AtBoardDesk.look.Goals as goal

pub returns-in-Ok-clause-others : goal.returns-in-Ok-clause-others
returns-in-Ok-clause-others g c = others_at c.args.self.now.board.now.lock.the_ground c.args.self.now.number c.args.pass.now c.look.new.pass.seen c.requires.own.2 c.look.ensures.others

pub returns-in-Err-Memory-clause-others : goal.returns-in-Err-Memory-clause-others
returns-in-Err-Memory-clause-others g c = others_at c.args.self.now.board.now.lock.the_ground c.args.self.now.number c.args.pass.now c.look.new.pass.seen c.requires.own.2 c.look.ensures.others
