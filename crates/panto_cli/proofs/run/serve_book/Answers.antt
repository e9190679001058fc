use Rattle.std.proofs.Common.{◌≤◌, inr, subst}
use Rattle.panto_cli.proofs.Sessions.{answered_so}
use Rattle.panto_cli.proofs.run.serve_book.Goals as goal

pub returns-clause-answered : goal.returns-clause-answered
returns-clause-answered g c =
    inr (answered_so _ _ _ _ _ _ _ _ c.in-Ok.ensures.book c.in-Ok.ensures.entries c.in-Ok.ensures.journal c.run_session-end.result c.run_session-end.ensures.session c.length-length.ensures.legal (subst (λ n. n ≤ c.run_session-end.new.tree.entries) c.length-length.ensures.length c.length-length.ensures.within) c.run_session-end.ensures.shown _ c.outcome_of.ensures)
