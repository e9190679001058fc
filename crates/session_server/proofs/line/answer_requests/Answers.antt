use Rattle.std.proofs.Common.{List, subst}
use Rattle.repl_json.specs.declared.request.Request.{Request}
use Rattle.session_server.specs.Answers.{Answers}
use Rattle.session_server.proofs.AnswerLemmas.{line_later, stopped_line, never_writes}
use Rattle.session_server.proofs.GoingLemmas.{goes_more}
use Rattle.session_server.proofs.line.answer_requests.Goals as goal

pub returns-in-Ok-clause-goes : goal.returns-in-Ok-clause-goes
returns-in-Ok-clause-goes g c = goes_more (g.D.Desk.meaning c.args.desk.now) _ _ _ c.enter_all.result c.in-Ok.ensures.goes c.enter_all.ensures.goes

pub returns-in-Ok-clause-answers : goal.returns-in-Ok-clause-answers
returns-in-Ok-clause-answers g c =
    line_later g.W.Work.value (g.D.Desk.meaning c.args.desk.now).alone (g.D.Desk.meaning c.args.desk.now).pass _ _ _ _ _ c.args.requests.items c.enter_all.result c.in-Ok.ensures.others
    (subst (λ (rs : List Request). Answers g.W.Work.value (g.D.Desk.meaning c.args.desk.now).alone (g.D.Desk.meaning c.args.desk.now).pass ((g.D.Desk.meaning c.args.desk.now).view c.prepare_all.new.place) ((g.D.Desk.meaning c.args.desk.now).view c.enter_all.new.place) (g.K.Sink.taken c.args.sink.now) (g.K.Sink.taken c.enter_all.new.sink) rs c.enter_all.result)
    c.in-Ok.ensures.requests c.enter_all.ensures.answers)

pub returns-in-Err-clause-answers : goal.returns-in-Err-clause-answers
returns-in-Err-clause-answers g c = stopped_line g.W.Work.value (g.D.Desk.meaning c.args.desk.now).alone (g.D.Desk.meaning c.args.desk.now).pass _ _ _ c.args.requests.items c.in-Err.halt c.in-Err.ensures.halts c.in-Err.ensures.others

pub returns-in-Err-clause-rose : goal.returns-in-Err-clause-rose
returns-in-Err-clause-rose g c = λ e. absurd (never_writes c.in-Err.halt c.in-Err.ensures.halts e)
