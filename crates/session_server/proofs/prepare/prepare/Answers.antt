use Rattle.std.proofs.Common.{◌∙◌, ap}
use Rattle.repl_json.specs.declared.request.Request.{Request}
use Rattle.state_tree.specs.Again.{is_bad}
use Rattle.state_tree.specs.Enters.{tree_of}
use Rattle.session_server.proofs.MadeLemmas.{fit_good, looked_made}
use Rattle.session_server.proofs.prepare.prepare.Goals as goal

pub returns-in-Ok-clause-fit : goal.returns-in-Ok-clause-fit
returns-in-Ok-clause-fit g c =
    let good = ap (λ (r : Request). is_bad r.ask) c.in-Ok.ensures.request ∙ c.requires.good in
    fit_good g.W.Work.value (tree_of g.W.Work.value ((g.D.Desk.meaning c.args.desk.now).view c.look_up.new.place)) _ _ c.make.result good c.in-Ok.ensures.looked c.make.ensures

pub returns-in-Ok-clause-looked : goal.returns-in-Ok-clause-looked
returns-in-Ok-clause-looked g c =
    looked_made g.W.Work.value (tree_of g.W.Work.value ((g.D.Desk.meaning c.args.desk.now).view c.look_up.new.place)) _ _ c.make.result c.in-Ok.ensures.looked c.make.ensures
