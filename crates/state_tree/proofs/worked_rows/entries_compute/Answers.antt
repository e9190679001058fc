use Rattle.std.proofs.Common.{refl}
use Rattle.state_tree.specs.Server.{answer, replay, IsLegal}
use Rattle.state_tree.proofs.worked_rows.entries_compute.Goals as goal

pub returns-clause-legal : goal.returns-clause-legal
unfolding IsLegal
returns-clause-legal c = (λ said. refl, tt)

pub returns-clause-illegal : goal.returns-clause-illegal
unfolding IsLegal
returns-clause-illegal c = λ legal. let e = legal.0 refl in cc

pub returns-clause-missed : goal.returns-clause-missed
unfolding answer replay
returns-clause-missed c = refl

pub returns-clause-missed_deleted : goal.returns-clause-missed_deleted
unfolding answer replay
returns-clause-missed_deleted c = refl

pub returns-clause-found : goal.returns-clause-found
unfolding answer replay
returns-clause-found c = refl

pub returns-clause-ahead : goal.returns-clause-ahead
unfolding answer replay
returns-clause-ahead c = refl
