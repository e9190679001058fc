use Rattle.worker_gate.proofs.Accounts.{puts}
use Rattle.worker_gate.proofs.ends.OwnDeque.put.Goals as goal

pub push_as-requires-clause-pushes : goal.push_as-requires-clause-pushes
push_as-requires-clause-pushes g c = puts (λ t. t.at) _ _ _ c.requires
