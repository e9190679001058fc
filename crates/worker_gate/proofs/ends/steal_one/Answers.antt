use Rattle.std.proofs.Common.{◌≡◌, ◌<◌, ap, arith}
use Rattle.worker_gate.specs.declared.account.Account.{Account}
use Rattle.crossbeam_deque.specs.Handles.{view}
use Rattle.worker_gate.proofs.Accounts.{steals}
use Rattle.worker_gate.proofs.Results.{AllGave-push}
use Rattle.worker_gate.proofs.ends.steal_one.Goals as goal

pub returns-then-is_err-clause-gave : goal.returns-then-is_err-clause-gave
returns-then-is_err-clause-gave g c = rw c.reserve.ensures.items c.requires.gave

pub steal_as-requires-clause-takes : goal.steal_as-requires-clause-takes
steal_as-requires-clause-takes g c =
    let e : (view c.args.part.now).parts ≡ 1 = ap (λ (v : Account). v.parts) c.requires.kept in
    let some_part : 0 < (view c.args.part.now).parts = omega arith in steals (λ t. t.at) _ _ 1 some_part

pub returns-in-Success-clause-gave : goal.returns-in-Success-clause-gave
returns-in-Success-clause-gave g c = rw c.push_reserved.ensures.items (AllGave-push g.K.Batch.jobs g.J.Job.gives g.K.Batch.told _ _ (rw c.reserve.ensures.items c.requires.gave) c.run.ensures.gave)

pub returns-in-Empty-clause-gave : goal.returns-in-Empty-clause-gave
returns-in-Empty-clause-gave g c = rw c.reserve.ensures.items c.requires.gave

pub returns-in-Retry-clause-gave : goal.returns-in-Retry-clause-gave
returns-in-Retry-clause-gave g c = rw c.reserve.ensures.items c.requires.gave
