use Rattle.worker_gate.proofs.Accounts.{merges}
use Rattle.worker_gate.proofs.Results.{AllGave-append}
use Rattle.worker_gate.proofs.ends.absorb_into.Goals as goal

pub returns-in_err-append-clause-gave : goal.returns-in_err-append-clause-gave
returns-in_err-append-clause-gave g c = rw c.in_err-append.ensures.items c.requires.gave.0

pub absorb-requires-clause-rule : goal.absorb-requires-clause-rule
absorb-requires-clause-rule g c = merges (λ t. t.at) _ _ _ _ c.requires.part

pub returns-clause-gave : goal.returns-clause-gave
returns-clause-gave g c = rw c.in_ok-append.ensures.items (AllGave-append g.K.Batch.jobs g.J.Job.gives g.K.Batch.told _ _ c.requires.gave.0 c.requires.gave.1)
