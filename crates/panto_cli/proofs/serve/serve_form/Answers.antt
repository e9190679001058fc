use Rattle.panto_cli.proofs.serve.serve_form.Goals as goal

pub returns-in-Serve-clause-ends : goal.returns-in-Serve-clause-ends
returns-in-Serve-clause-ends g c = rw c.in-Serve.is c.serve_plan.ensures.ends

pub returns-in-Serve-clause-heard : goal.returns-in-Serve-clause-heard
returns-in-Serve-clause-heard g c = rw c.in-Serve.is c.serve_plan.ensures.heard
