use Rattle.std.proofs.lemmas.Result.{IfOk-weaker}
use Rattle.worker_gate.proofs.Lists.{zip_is_map}
use Rattle.worker_gate.proofs.run.gather.Goals as goal

pub returns-clause-same : goal.returns-clause-same
returns-clause-same g c g' one =
    IfOk-weaker c.gather_batch.result _ _ (λ v each. zip_is_map g.J.Job.gives g' c.args.jobs.items v.items one each) c.gather_batch.ensures.results
