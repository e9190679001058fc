use Rattle.std.proofs.Common.{refl}
use Rattle.state_tree.specs.Server.{answer}
use Rattle.state_tree.proofs.worked_rows.replies_compute.Goals as goal

pub returns-clause-deletes : goal.returns-clause-deletes
unfolding answer
returns-clause-deletes c = refl

pub returns-clause-envs : goal.returns-clause-envs
unfolding answer
returns-clause-envs c = refl

pub returns-clause-order : goal.returns-clause-order
unfolding answer
returns-clause-order c = refl

pub returns-clause-target_first : goal.returns-clause-target_first
unfolding answer
returns-clause-target_first c = refl

pub returns-clause-memory : goal.returns-clause-memory
unfolding answer
returns-clause-memory c = refl
