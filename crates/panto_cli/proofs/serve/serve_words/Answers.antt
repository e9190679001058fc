use Rattle.std.proofs.Common.{refl}
use Rattle.panto_cli.proofs.Serving.{memory_ends}
use Rattle.panto_cli.proofs.Heard.{silent}
use Rattle.panto_cli.proofs.serve.serve_words.Goals as goal

pub returns-in-Err-clause-ends : goal.returns-in-Err-clause-ends
returns-in-Err-clause-ends g c =
    rw (c.without-in-Err.ensures.outcome, c.without-in-Err.ensures.journal, c.without-in-Err.ensures.last, c.without-in-Err.ensures.served) (memory_ends _ _ _ refl refl refl refl _)

pub returns-in-Err-clause-heard : goal.returns-in-Err-clause-heard
returns-in-Err-clause-heard g c =
    silent c.without-in-Err.result.journal (λ v. v.items) _
    (record { links = g.D.Doors.links c.args.doors.now; address = g.D.Doors.listens_on c.args.doors.now; faults = g.D.Doors.faults c.args.doors.now })
    (record { links = g.D.Doors.links c.args.doors.now; address = g.D.Doors.listens_on c.args.doors.now; faults = g.D.Doors.faults c.args.doors.now })
    _ c.without-in-Err.result.last _ c.without-in-Err.result.told _ _ c.without-in-Err.ensures.journal c.without-in-Err.ensures.told
