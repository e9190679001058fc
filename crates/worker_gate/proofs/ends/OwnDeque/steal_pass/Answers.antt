use Rattle.worker_gate.proofs.Accounts.{forks}
use Rattle.worker_gate.proofs.ends.OwnDeque.steal_pass.Goals as goal

pub another-pass-requires : goal.another-pass-requires
another-pass-requires g c = forks (λ t. t.at) _ _ c.requires
