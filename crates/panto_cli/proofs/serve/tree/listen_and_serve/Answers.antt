use Rattle.std.proofs.Common.{ℕ, inr, List, Option, sym, ◌∙◌, subst}
use Rattle.std.proofs.lemmas.List.{length-map}
use Rattle.pan_io.specs.Doors.{ListensOn}
use Rattle.panto_cli.proofs.ClosedBoards.{closed_unserved, closed_links, rose_at_error, listens_at_ok, hears_put}
use Rattle.panto_cli.proofs.Endings.{kept}
use Rattle.panto_cli.proofs.serve.tree.listen_and_serve.Goals as goal

pub returns-then-is_err-clause-closed : goal.returns-then-is_err-clause-closed
returns-then-is_err-clause-closed g c =
    closed_unserved _ c.close.result.served.items _ _ _ _ _ _ _ _ c.requires.plan.4 (rose_at_error c.listen.result (sym c.is_err.ensures.value ∙ c.if-is_err.true) c.listen.ensures.cause)
    c.close.ensures.served c.close.ensures.failed c.close.ensures.journal c.close.ensures.fits

pub returns-then-is_err-clause-heard : goal.returns-then-is_err-clause-heard
returns-then-is_err-clause-heard g c =
    let failed = rose_at_error c.listen.result (sym c.is_err.ensures.value ∙ c.if-is_err.true) c.listen.ensures.cause in
    inr (kept (g.N.Sink.taken c.args.notes.now), (c.close.ensures.served, c.close.ensures.failed, failed))

pub returns-clause-closed : goal.returns-clause-closed
returns-clause-closed g c =
    closed_links _ _ _ _ _ _ _ _ _ _
    (record { links = g.D.Doors.links c.listen.new.self; address = g.D.Doors.listens_on c.listen.new.self; faults = g.D.Doors.faults c.listen.new.self })
    _ c.requires.sessions c.listen.ensures.links c.listen.ensures.cause.later (length-map c.serve_links-closed.result.served.items _ ∙ sym c.serve_links-closed.result.served.ok.0)
    (listens_at_ok c.listen.result (g.D.Doors.listens_on c.listen.new.self) c.args.plan.listen.now (sym c.is_err.ensures.value ∙ c.if-is_err.false) c.listen.ensures.listens)
    c.serve_links-closed.ensures.address c.serve_links-closed.ensures.count c.serve_links-closed.ensures.left c.serve_links-closed.ensures.fits c.serve_links-closed.ensures.complete

pub returns-clause-heard : goal.returns-clause-heard
returns-clause-heard g c =
    hears_put c.put_all.result c.is_ok-told.result _ _ (g.N.Sink.taken c.args.notes.now) (g.N.Sink.taken c.put_all.new.sink) (g.N.Sink.faults c.args.notes.now) (g.N.Sink.faults c.put_all.new.sink)
    c.is_ok-told.ensures.value
    (subst (λ (address : Option (List ℕ)). ListensOn address c.args.plan.listen.now) (sym c.serve_links-closed.ensures.address)
    (listens_at_ok c.listen.result (g.D.Doors.listens_on c.listen.new.self) c.args.plan.listen.now (sym c.is_err.ensures.value ∙ c.if-is_err.false) c.listen.ensures.listens))
    c.put_all.ensures.ok c.put_all.ensures.failed c.put_all.ensures.cause
