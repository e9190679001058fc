use Rattle.std.proofs.Common.{sym, ap, ◌∙◌}
use Rattle.pan_io.specs.Reader.{Reader}
use Rattle.pan_io.proofs.HistoryLemmas.{continues_open}
use Rattle.pan_io.proofs.lines.Lines.take.Goals as goal

pub returns-in-Open-clause-history : goal.returns-in-Open-clause-history
returns-in-Open-clause-history g c = λ start seen lines history.
    let took = c.take_open.ensures.line in
    continues_open _ _ _ _ _ _ took.0 took.1 seen lines history (sym (ap (λ (r : Reader). r.stop) c.self.view_is) ∙ c.in-Open.is) took.2
