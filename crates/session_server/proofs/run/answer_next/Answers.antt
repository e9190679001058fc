use Rattle.std.proofs.Common.{List, ℕ, subst}
use Rattle.session_server.specs.Input.{requests_of_line}
use Rattle.session_server.specs.Answers.{AnswersLine}
use Rattle.session_server.proofs.GoingLemmas.{goes_step}
use Rattle.session_server.proofs.SessionLemmas.{line_taken, long_taken, end_taken, fault_taken, exceeded_taken}
use Rattle.session_server.proofs.run.answer_next.Goals as goal

pub returns-in-Line-clause-goes : goal.returns-in-Line-clause-goes
returns-in-Line-clause-goes g c = rw c.settle.ensures (goes_step (g.D.Desk.meaning c.args.desk.now) _ _ c.answer_line.result c.answer_line.ensures.goes)

pub returns-in-TooLong-clause-goes : goal.returns-in-TooLong-clause-goes
returns-in-TooLong-clause-goes g c = rw c.settle-in-TooLong.ensures (goes_step (g.D.Desk.meaning c.args.desk.now) _ _ c.answer_long.result c.answer_long.ensures.goes)

pub returns-in-Line-clause-step : goal.returns-in-Line-clause-step
returns-in-Line-clause-step g c = λ start out first runs.
    rw c.settle.ensures
    (line_taken g.W.Work.value (g.D.Desk.meaning c.args.desk.now).alone (g.D.Desk.meaning c.args.desk.now).pass _ _ _ _ _ _ _ _ _ _ _ c.answer_line.result runs (λ seen lines h. c.in-Line.ensures.history start seen lines h)
    (λ short. subst (λ (l : List ℕ). AnswersLine g.W.Work.value (g.D.Desk.meaning c.args.desk.now).alone (g.D.Desk.meaning c.args.desk.now).pass ((g.D.Desk.meaning c.args.desk.now).view c.args.place.now) ((g.D.Desk.meaning c.args.desk.now).view c.answer_line.new.place) (g.K.Sink.taken c.args.sink.now) (g.K.Sink.taken c.answer_line.new.sink) (requests_of_line l) c.answer_line.result)
    c.line.ensures c.answer_line.ensures.answers))

pub returns-in-TooLong-clause-step : goal.returns-in-TooLong-clause-step
returns-in-TooLong-clause-step g c = λ start out first runs.
    rw c.settle-in-TooLong.ensures
    (long_taken g.W.Work.value (g.D.Desk.meaning c.args.desk.now).alone (g.D.Desk.meaning c.args.desk.now).pass _ _ _ _ _ _ _ _ _ _ _ _ c.answer_long.result runs (λ seen lines h. c.in-TooLong.ensures.history start seen lines h) c.answer_long.ensures.answers)

pub returns-in-End-clause-step : goal.returns-in-End-clause-step
returns-in-End-clause-step g c = λ start out first runs.
    end_taken g.W.Work.value (g.D.Desk.meaning c.args.desk.now).alone (g.D.Desk.meaning c.args.desk.now).pass _ _ _ _ _ _ _ _ _ runs (λ seen lines h. c.in-End.ensures.history start seen lines h) c.in-End.ensures.most

pub returns-in-ReadFault-clause-step : goal.returns-in-ReadFault-clause-step
returns-in-ReadFault-clause-step g c = λ start out first runs.
    fault_taken g.W.Work.value (g.D.Desk.meaning c.args.desk.now).alone (g.D.Desk.meaning c.args.desk.now).pass _ _ _ _ _ _ _ _ _ runs (λ seen lines h. c.in-ReadFault.ensures.history start seen lines h)

pub returns-in-Long-clause-step : goal.returns-in-Long-clause-step
returns-in-Long-clause-step g c = λ start out first runs.
    exceeded_taken g.W.Work.value (g.D.Desk.meaning c.args.desk.now).alone (g.D.Desk.meaning c.args.desk.now).pass _ _ _ _ _ _ _ _ _ _ runs (λ seen lines h. c.in-Long.ensures.history start seen lines h)
