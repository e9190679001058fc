use Rattle.worker_gate.proofs.Accounts.{takes, finds}
use Rattle.worker_gate.proofs.Results.{AllGave-push}
use Rattle.worker_gate.proofs.ends.take_one.Goals as goal

pub returns-in_err-reserve-clause-gave : goal.returns-in_err-reserve-clause-gave
returns-in_err-reserve-clause-gave g c = rw c.in_err-reserve.ensures.items c.requires.gave

pub pop_as-requires-clause-fifo : goal.pop_as-requires-clause-fifo
pop_as-requires-clause-fifo g c = λ _. takes (λ t. t.at) _ _ 1 c.requires.part

pub pop_as-requires-clause-empty : goal.pop_as-requires-clause-empty
pop_as-requires-clause-empty g c = finds _ _

pub returns-in-Some-clause-gave : goal.returns-in-Some-clause-gave
returns-in-Some-clause-gave g c = rw c.push_reserved.ensures.items (AllGave-push g.K.Batch.jobs g.J.Job.gives g.K.Batch.told _ _ (rw c.in_ok-reserve.ensures.items c.requires.gave) c.run.ensures.gave)

pub returns-in-None-clause-gave : goal.returns-in-None-clause-gave
returns-in-None-clause-gave g c = rw c.in_ok-reserve.ensures.items c.requires.gave
