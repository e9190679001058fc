use Rattle.std.proofs.Common.{◌≡◌, ◌∙◌, ℕ, subst, ap, sym, length, arith}
use Rattle.std.proofs.lemmas.List.{length-map}
use Rattle.state_tree.specs.Enters.{tree_of}
use Rattle.session_server.proofs.MadeLemmas.{all_fit, same_requests}
use Rattle.session_server.proofs.prepare.prepare_all.Goals as goal

pub returns-in-Ok-make_all-clause-requests : goal.returns-in-Ok-make_all-clause-requests
returns-in-Ok-make_all-clause-requests g c =
    same_requests g.W.Work.value (λ job. job.request) (λ job. job.found) c.in-Ok.jobs.items c.in-Ok-make_all.readies.items c.in-Ok-make_all.ensures.made ∙ c.in-Ok.ensures.requests

pub returns-in-Ok-make_all-clause-fit : goal.returns-in-Ok-make_all-clause-fit
returns-in-Ok-make_all-clause-fit g c =
    all_fit g.W.Work.value (tree_of g.W.Work.value ((g.D.Desk.meaning c.args.desk.now).view c.look_all.new.place)) (λ job. job.request) (λ job. job.found) c.in-Ok.jobs.items c.in-Ok-make_all.readies.items c.in-Ok.ensures.kept c.in-Ok-make_all.ensures.made

pub returns-in-Ok-make_all-clause-told : goal.returns-in-Ok-make_all-clause-told
returns-in-Ok-make_all-clause-told g c = λ p within.
    let many : length c.in-Ok.jobs.items ≡ length c.args.requests.items = sym (length-map c.in-Ok.jobs.items (λ job. job.request)) ∙ ap length c.in-Ok.ensures.requests in
    subst (λ (n : ℕ). g.G.Gate.told n p) c.number.ensures (c.in-Ok-make_all.ensures.told p (omega (arith, many, within, c.in-Ok.jobs.ok.0, c.args.requests.ok.0)))
