use Rattle.std.proofs.Common.{◌∙◌}
use Rattle.session_server.proofs.TryingLemmas.{entered_there, filled_there, missed_there, others_there}
use Rattle.session_server.proofs.answer.enter_once.Goals as goal

pub enter-requires-clause-fit : goal.enter-requires-clause-fit
enter-requires-clause-fit g c = c.requires.linked.fit c.args.place.now c.args.ready c.requires.fit

pub returns-in-Ok-Entered-clause-tried : goal.returns-in-Ok-Entered-clause-tried
returns-in-Ok-Entered-clause-tried g c =
    let at = c.in-Ok-Entered in
    entered_there g.W.Work.value (g.D.Desk.meaning c.args.desk.now).alone (g.D.Desk.meaning c.args.desk.now).pass ((g.D.Desk.meaning c.args.desk.now).view c.args.place.now) ((g.D.Desk.meaning c.args.desk.now).view c.enter.new.place) c.args.ready at.field-0 at.line at.field-0-is (c.requires.linked.entered _ _ _ at.field-0 at.ensures.entered)

pub returns-in-Ok-Full-clause-tried : goal.returns-in-Ok-Full-clause-tried
returns-in-Ok-Full-clause-tried g c =
    let at = c.in-Ok-Full in
    filled_there g.W.Work.value (g.D.Desk.meaning c.args.desk.now).alone (g.D.Desk.meaning c.args.desk.now).pass ((g.D.Desk.meaning c.args.desk.now).view c.args.place.now) ((g.D.Desk.meaning c.args.desk.now).view c.enter.new.place) c.args.ready at.field-0 at.entries at.field-0-is (c.requires.linked.entered _ _ _ at.field-0 at.ensures.entered)

pub returns-in-Ok-clause-tried : goal.returns-in-Ok-clause-tried
returns-in-Ok-clause-tried g c =
    let at = c.in-Ok-Again in
    let looked = c.in-Ok.ensures in
    missed_there g.W.Work.value (g.D.Desk.meaning c.args.desk.now).alone (g.D.Desk.meaning c.args.desk.now).pass ((g.D.Desk.meaning c.args.desk.now).view c.args.place.now) ((g.D.Desk.meaning c.args.desk.now).view c.enter.new.place) ((g.D.Desk.meaning c.args.desk.now).view c.prepare.new.place) c.args.ready at.ready c.in-Ok.again at.field-0 _ at.field-0-is (c.requires.linked.entered _ _ _ at.field-0 at.ensures.entered) c.requires.fit
    looked.others (looked.request ∙ c.into_request.ensures) looked.fit looked.looked

pub returns-in-Err-prepare-clause-tried : goal.returns-in-Err-prepare-clause-tried
returns-in-Err-prepare-clause-tried g c =
    let at = c.in-Ok-Again in
    others_there g.W.Work.value (g.D.Desk.meaning c.args.desk.now).alone (g.D.Desk.meaning c.args.desk.now).pass ((g.D.Desk.meaning c.args.desk.now).view c.args.place.now) ((g.D.Desk.meaning c.args.desk.now).view c.enter.new.place) ((g.D.Desk.meaning c.args.desk.now).view c.prepare.new.place) c.args.ready at.ready at.field-0 _ at.field-0-is (c.requires.linked.entered _ _ _ at.field-0 at.ensures.entered) c.in-Err-prepare.ensures.others
