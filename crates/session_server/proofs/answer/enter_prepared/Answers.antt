use Rattle.std.proofs.Common.{refl, ◌∙◌, Ok, Err, subst}
use Rattle.repl_json.specs.declared.request.Request.{Request}
use Rattle.session_server.specs.Answers.{IsReplied}
use Rattle.session_server.proofs.GoingLemmas.{went_none, went_more, halting_more}
use Rattle.session_server.proofs.SeesLemmas.{others_none, others_more, replied_later}
use Rattle.session_server.proofs.TryingLemmas.{entered_by, missed_by}
use Rattle.session_server.proofs.answer.enter_prepared.Goals as goal

pub tries-init : goal.tries-init
tries-init g c = record {
  own = c.requires.own;
  went = went_none (g.D.Desk.meaning c.args.desk.now) c.args.place.now;
  others = others_none (g.D.Desk.meaning c.args.desk.now).alone (g.D.Desk.meaning c.args.desk.now).pass _ _ refl;
  same = refl;
  fit = c.requires.fit;
}

pub tries-smaller : goal.tries-smaller
tries-smaller g c =
    let at = c.in-Ok-Missed in
    (missed_by g.W.Work.value (g.D.Desk.meaning c.args.desk.now).alone (g.D.Desk.meaning c.args.desk.now).pass ((g.D.Desk.meaning c.args.desk.now).view c.tries.place) ((g.D.Desk.meaning c.args.desk.now).view c.enter_once.new.place) c.tries.ready at.again at.field-0 at.field-0-is at.ensures.tried).3

pub tries-preserved : goal.tries-preserved
tries-preserved g c =
    let before = c.tries.invariant in
    let at = c.in-Ok-Missed in
    let tried = missed_by g.W.Work.value (g.D.Desk.meaning c.args.desk.now).alone (g.D.Desk.meaning c.args.desk.now).pass ((g.D.Desk.meaning c.args.desk.now).view c.tries.place) ((g.D.Desk.meaning c.args.desk.now).view c.enter_once.new.place) c.tries.ready at.again at.field-0 at.field-0-is at.ensures.tried in
    record {
      own = at.ensures.own;
      went = went_more (g.D.Desk.meaning c.args.desk.now) _ _ _ before.went at.ensures.goes;
      others = others_more (g.D.Desk.meaning c.args.desk.now).alone (g.D.Desk.meaning c.args.desk.now).pass _ _ _ before.others tried.0;
      same = tried.1 ∙ before.same;
      fit = tried.2;
    }

pub returns-in-Ok-Entered-clause-goes : goal.returns-in-Ok-Entered-clause-goes
returns-in-Ok-Entered-clause-goes g c = went_more (g.D.Desk.meaning c.args.desk.now) _ _ _ c.tries.invariant.went c.in-Ok-Entered.ensures.goes

pub returns-in-Ok-Entered-clause-replied : goal.returns-in-Ok-Entered-clause-replied
returns-in-Ok-Entered-clause-replied g c =
    let at = c.in-Ok-Entered in
    let entered = entered_by g.W.Work.value (g.D.Desk.meaning c.args.desk.now).alone (g.D.Desk.meaning c.args.desk.now).pass ((g.D.Desk.meaning c.args.desk.now).view c.tries.place) ((g.D.Desk.meaning c.args.desk.now).view c.enter_once.new.place) c.tries.ready at.field-0 at.line at.field-0-is at.ensures.tried in
    let replied = replied_later g.W.Work.value (g.D.Desk.meaning c.args.desk.now).alone (g.D.Desk.meaning c.args.desk.now).pass ((g.D.Desk.meaning c.args.desk.now).view c.args.place.now) ((g.D.Desk.meaning c.args.desk.now).view c.tries.place) ((g.D.Desk.meaning c.args.desk.now).view c.enter_once.new.place) c.tries.ready.request (Ok at.line) c.tries.invariant.others entered in
    subst (λ (r : Request). IsReplied g.W.Work.value (g.D.Desk.meaning c.args.desk.now).alone (g.D.Desk.meaning c.args.desk.now).pass ((g.D.Desk.meaning c.args.desk.now).view c.args.place.now) ((g.D.Desk.meaning c.args.desk.now).view c.enter_once.new.place) r (Ok at.line)) c.tries.invariant.same replied

pub returns-in-Err-clause-goes : goal.returns-in-Err-clause-goes
returns-in-Err-clause-goes g c = halting_more (g.D.Desk.meaning c.args.desk.now) _ _ _ c.in-Err.halt c.tries.invariant.went c.in-Err.ensures.goes

pub returns-in-Err-clause-replied : goal.returns-in-Err-clause-replied
returns-in-Err-clause-replied g c =
    let replied = replied_later g.W.Work.value (g.D.Desk.meaning c.args.desk.now).alone (g.D.Desk.meaning c.args.desk.now).pass ((g.D.Desk.meaning c.args.desk.now).view c.args.place.now) ((g.D.Desk.meaning c.args.desk.now).view c.tries.place) ((g.D.Desk.meaning c.args.desk.now).view c.enter_once.new.place) c.tries.ready.request (Err c.in-Err.halt) c.tries.invariant.others c.in-Err.ensures.tried in
    subst (λ (r : Request). IsReplied g.W.Work.value (g.D.Desk.meaning c.args.desk.now).alone (g.D.Desk.meaning c.args.desk.now).pass ((g.D.Desk.meaning c.args.desk.now).view c.args.place.now) ((g.D.Desk.meaning c.args.desk.now).view c.enter_once.new.place) r (Err c.in-Err.halt)) c.tries.invariant.same replied
