use Rattle.std.proofs.Common.{ℕ, subst}
use Rattle.state_tree.proofs.Shown.{replies_shown}
use Rattle.shared_board.specs.Calls.{tree_with}
use Rattle.session_server.specs.PassSession.{PassSession}
use Rattle.session_server.proofs.Concluding.{only_sees_more, turns_by}
use Rattle.session_server.proofs.OwnMemory.{pass_shows}
use Rattle.session_server.proofs.serving.serve_session.Goals as goal

pub returns-clause-same : goal.returns-clause-same
returns-clause-same g c =
    only_sees_more c.args.board.now.lock.the_ground c.number.result c.args.pass.now c.run.new.place c.run.result c.run.ensures.serves.session.since c.run.ensures.goes c.run.ensures.serves.session.grows

pub returns-clause-turns : goal.returns-clause-turns
returns-clause-turns g c = turns_by c.args.board.now.lock.the_ground c.number.result c.args.pass.now c.run.new.place c.run.result c.run.ensures.goes

pub returns-clause-session : goal.returns-clause-session
returns-clause-session g c =
    let ground = c.args.board.now.lock.the_ground in
    subst (λ (n : ℕ). PassSession g.W.Work.value n (g.S.Source.left c.args.source.now) (g.S.Source.left c.run.new.source) (tree_with ground c.args.pass.now.seen) (tree_with ground c.run.new.place.seen) (g.K.Sink.taken c.args.sink.now) (g.K.Sink.taken c.run.new.sink) c.run.result)
    c.number.ensures.is c.run.ensures.serves.session

pub returns-clause-shown : goal.returns-clause-shown
returns-clause-shown g c = λ since is.
    let ground = c.args.board.now.lock.the_ground in
    let laws = g.met.W.Work g.world.𝓛 g.world.𝓜 g.world.𝓡 ((λ s x. x), (λ x. x), (λ x. x), λ x. x) in
    let session =
    subst (λ (n : ℕ). PassSession g.W.Work.value n (g.S.Source.left c.args.source.now) (g.S.Source.left c.run.new.source) (tree_with ground c.args.pass.now.seen) (tree_with ground c.run.new.place.seen) (g.K.Sink.taken c.args.sink.now) (g.K.Sink.taken c.run.new.sink) c.run.result)
    c.number.ensures.is c.run.ensures.serves.session in
    pass_shows g.W.Work.value (replies_shown g.W.Work.value laws.replies) c.args.pass.now.number _ _ _ _ (tree_with ground c.args.pass.now.seen) (tree_with ground c.run.new.place.seen) c.run.result session c.run.ensures.own.1.legal since is
