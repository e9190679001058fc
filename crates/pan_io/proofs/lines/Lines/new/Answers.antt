use Rattle.std.proofs.Common.{refl}
use Rattle.pan_io.proofs.HistoryLemmas.{history_start}
use Rattle.pan_io.proofs.lines.Lines.new.Goals as goal

pub returns-clause-history : goal.returns-clause-history
returns-clause-history c = λ left. history_start left _ c.in_ok-input.ensures.0 c.in_ok-input.ensures.1 refl
