use Rattle.std.proofs.Common.{ap, subst}
use Rattle.shared_board.specs.Boards.{BoardPassMeaning}
use Rattle.shared_board.specs.Calls.{GoesOnFrom}
use Rattle.shared_board.proofs.GrowingViews.{kept_after, learnt_views}
use Rattle.shared_board.proofs.board.Board.learn.Goals as goal

pub invariant_of-pass : goal.invariant_of-pass
invariant_of-pass g c =
    let learnt = c.learn.ensures.pass in
    let views = learnt_views c.pass.inside.pass c.learn.new.pass c.args.note.seen c.learn.ensures.prefix (ap (λ p. p.seen) learnt) in
    kept_after g.W.Work.value c.pass.inside.pass c.learn.new.pass views.1.more c.pass.inside.cache.states.entries (ap (λ p. p.the_ground) learnt) views.1.is c.pass.invariant

pub returns-clause-told : goal.returns-clause-told
returns-clause-told g c = (learnt_views c.pass.inside.pass c.learn.new.pass c.args.note.seen c.learn.ensures.prefix (ap (λ p. p.seen) c.learn.ensures.pass)).0

pub returns-clause-others : goal.returns-clause-others
returns-clause-others g c =
    let views = learnt_views c.pass.inside.pass c.learn.new.pass c.args.note.seen c.learn.ensures.prefix (ap (λ p. p.seen) c.learn.ensures.pass) in
    subst (λ (old : BoardPassMeaning g.row.W-Env.Denot). GoesOnFrom old c.learn.new.pass.seen) c.pass.view_is views.1
