use Rattle.std.proofs.lemmas.Result.{IfOk-weaker}
use Rattle.session_server.proofs.MadeLemmas.{all_made}
use Rattle.session_server.proofs.prepare.make_all.Goals as goal

pub returns-clause-made : goal.returns-clause-made
returns-clause-made g c =
    IfOk-weaker c.all_made.result _ _ (λ v is. all_made g.W.Work.value (λ job. job.request) (λ job. job.found) c.args.jobs.items c.in_ok-made.made.items v.items is c.in_ok-made.ensures.results) c.all_made.ensures

pub returns-clause-told : goal.returns-clause-told
returns-clause-told g c = IfOk-weaker c.all_made.result _ _ (λ v is. c.in_ok-made.ensures.told) c.all_made.ensures
