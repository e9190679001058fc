use Rattle.session_server.proofs.job.look_up.Goals as goal

pub returns-in-Ok-clause-looked : goal.returns-in-Ok-clause-looked
returns-in-Ok-clause-looked g c = c.requires.linked.looked c.look.new.place c.args.request c.in-Ok.found c.in-Ok.ensures.looked
