use Rattle.session_server.proofs.AnswerLemmas.{one_cut, none_answered}
use Rattle.session_server.proofs.answer.enter_ready.Goals as goal

pub returns-in-Ok-clause-answers : goal.returns-in-Ok-clause-answers
returns-in-Ok-clause-answers g c = one_cut g.W.Work.value (g.D.Desk.meaning c.args.desk.now).alone (g.D.Desk.meaning c.args.desk.now).pass _ _ c.args.ready.request c.in-Ok.line _ _ c.in-Ok.ensures.replied c.in-Err-send.ensures.failed

pub returns-clause-answers : goal.returns-clause-answers
returns-clause-answers g c = none_answered g.W.Work.value (g.D.Desk.meaning c.args.desk.now).alone (g.D.Desk.meaning c.args.desk.now).pass _ _ c.args.ready.request _ c.in-Err.halt c.in-Err.ensures.replied
