use Rattle.std.proofs.Common.{Some, refl}
use Rattle.panto_cli.proofs.Serving.{serves_links, memory_ends}
use Rattle.panto_cli.proofs.Heard.{heard_closed, silent}
use Rattle.panto_cli.proofs.serve.tree.serve_book.Goals as goal

pub returns-in-Ok-clause-ends : goal.returns-in-Ok-clause-ends
returns-in-Ok-clause-ends g c =
    λ books file workers shelf accepts.
    serves_links _ _ books file _ _ workers _ _ _ _ _ _ _ _ shelf _ c.in-Ok.ensures.book c.in-Ok.ensures.entries c.listen_and_serve-closed.ensures.closed
    c.deref.result.now c.deref.ensures.value c.outcome_of_links.ensures accepts

pub returns-in-Ok-clause-heard : goal.returns-in-Ok-clause-heard
returns-in-Ok-clause-heard g c =
    heard_closed _ c.listen_and_serve-closed.result.closed.served.items c.listen_and_serve-closed.result.closed.journal.items _
    (record { links = g.D.Doors.links c.args.doors.now; address = g.D.Doors.listens_on c.args.doors.now; faults = g.D.Doors.faults c.args.doors.now })
    (record { links = g.D.Doors.links c.listen_and_serve-closed.new.doors; address = g.D.Doors.listens_on c.listen_and_serve-closed.new.doors; faults = g.D.Doors.faults c.listen_and_serve-closed.new.doors })
    (Some c.listen_and_serve-closed.result.closed.last) c.outcome_of_links.result
    c.listen_and_serve-closed.result.closed.failed c.listen_and_serve-closed.result.told _
    (g.N.Sink.taken c.args.notes.now) (g.N.Sink.taken c.listen_and_serve-closed.new.notes) (g.N.Sink.faults c.args.notes.now) (g.N.Sink.faults c.listen_and_serve-closed.new.notes)
    c.listen_and_serve-closed.ensures.heard c.outcome_of_links.ensures

pub returns-in-Err-clause-ends : goal.returns-in-Err-clause-ends
returns-in-Err-clause-ends g c =
    λ books file workers shelf accepts.
    rw (c.without.ensures.outcome, c.without.ensures.journal, c.without.ensures.last, c.without.ensures.served) (memory_ends _ _ _ refl refl refl refl _)

pub returns-in-Err-clause-heard : goal.returns-in-Err-clause-heard
returns-in-Err-clause-heard g c = silent c.without.result.journal (λ v. v.items) _
    (record { links = g.D.Doors.links c.args.doors.now; address = g.D.Doors.listens_on c.args.doors.now; faults = g.D.Doors.faults c.args.doors.now })
    (record { links = g.D.Doors.links c.args.doors.now; address = g.D.Doors.listens_on c.args.doors.now; faults = g.D.Doors.faults c.args.doors.now })
    _ c.without.result.last _ c.without.result.told _ _ c.without.ensures.journal c.without.ensures.told
