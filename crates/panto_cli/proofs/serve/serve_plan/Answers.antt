use Rattle.std.proofs.Common.{refl}
use Rattle.panto_cli.proofs.Serving.{serve_without}
use Rattle.panto_cli.proofs.Heard.{silent}
use Rattle.panto_cli.proofs.serve.serve_plan.Goals as goal

pub returns-in-Ok-clause-ends : goal.returns-in-Ok-clause-ends
returns-in-Ok-clause-ends g c = c.serve_book.ensures.ends _ _ _ _ c.in-Ok.ensures.accepted

pub returns-in-Err-clause-ends : goal.returns-in-Err-clause-ends
returns-in-Err-clause-ends g c =
    rw (c.without.ensures.outcome, c.outcome_without.ensures, c.without.ensures.journal, c.without.ensures.last, c.without.ensures.served)
    (serve_without _ _ _ refl refl refl refl _ _ _ _ _ c.in-Err.fault c.in-Err.ensures.refused)

pub returns-in-Err-clause-heard : goal.returns-in-Err-clause-heard
returns-in-Err-clause-heard g c = silent c.without.result.journal (λ v. v.items) _
    (record { links = g.D.Doors.links c.args.doors.now; address = g.D.Doors.listens_on c.args.doors.now; faults = g.D.Doors.faults c.args.doors.now })
    (record { links = g.D.Doors.links c.args.doors.now; address = g.D.Doors.listens_on c.args.doors.now; faults = g.D.Doors.faults c.args.doors.now })
    _ c.without.result.last _ c.without.result.told _ _ c.without.ensures.journal c.without.ensures.told
