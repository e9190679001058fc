use Rattle.std.proofs.Common.{◌≡◌}
use Rattle.state_tree.specs.Enters.{tree_of}
use Rattle.session_server.specs.Answers.{IsFit, misses}
use Rattle.session_server.specs.Desks.{OthersComeTo, Went}
use Rattle.session_server.proofs.answer.enter_prepared.Given as goal

abbrev pub invariant-tries : goal.invariant-tries
invariant-tries g l = record {
  own : g.D.Desk.is_own l.fn.desk l.place;
  went : Went (g.D.Desk.meaning l.fn.desk) l.fn.place l.place;
  others : OthersComeTo (g.D.Desk.meaning l.fn.desk) l.fn.place l.place;
  same : l.ready.request ≡ l.fn.ready.request;
  fit : IsFit (tree_of g.W.Work.value ((g.D.Desk.meaning l.fn.desk).view l.place)) l.ready;
}

abbrev pub decreases-tries : goal.decreases-tries
decreases-tries g l = misses l.ready
