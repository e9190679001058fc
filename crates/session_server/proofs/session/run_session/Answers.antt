use Rattle.state_tree.proofs.Shown.{replies_shown}
use Rattle.session_server.proofs.Concluding.{alone_session}
use Rattle.session_server.proofs.MemoryLemmas.{session_shows}
use Rattle.session_server.proofs.session.run_session.Goals as goal

pub returns-clause-session : goal.returns-clause-session
returns-clause-session g c = alone_session g.W.Work.value _ _ _ _ c.args.tree.now c.run-end.new.place c.run-end.result c.run-end.ensures.goes c.run-end.ensures.serves

pub returns-clause-shown : goal.returns-clause-shown
returns-clause-shown g c =
    let laws = g.met.W.Work g.world.𝓛 g.world.𝓜 g.world.𝓡 ((λ s x. x), (λ x. x), (λ x. x), λ x. x) in
    let session = alone_session g.W.Work.value _ _ _ _ c.args.tree.now c.run-end.new.place c.run-end.result c.run-end.ensures.goes c.run-end.ensures.serves in
    session_shows g.W.Work.value (replies_shown g.W.Work.value laws.replies) _ _ _ _ c.args.tree.now c.run-end.new.place c.run-end.result session c.length-length-2.ensures.legal
