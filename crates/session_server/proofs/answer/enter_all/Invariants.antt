use Rattle.std.proofs.Common.{◌≡◌, ◌≤◌, List, ◌++◌, vec_len, is_some}
use Rattle.repl_json.specs.declared.request.Request.{Request}
use Rattle.state_tree.specs.Enters.{tree_of}
use Rattle.session_server.specs.Answers.{Answered, AreFit, requests_in_readies}
use Rattle.session_server.specs.Desks.{Went}
use Rattle.session_server.proofs.answer.enter_all.Given as goal

abbrev pub invariant-readies : goal.invariant-readies
invariant-readies g l = record {
  own : g.D.Desk.is_own l.fn.desk l.place;
  went : Went (g.D.Desk.meaning l.fn.desk) l.fn.place l.place;
  before : (first : List Request) × (requests_in_readies l.fn.readies.items ≡ first ++ requests_in_readies l.readies.items)
      × Answered g.W.Work.value (g.D.Desk.meaning l.fn.desk).alone (g.D.Desk.meaning l.fn.desk).pass ((g.D.Desk.meaning l.fn.desk).view l.fn.place) ((g.D.Desk.meaning l.fn.desk).view l.place) (g.K.Sink.taken l.fn.sink) (g.K.Sink.taken l.sink) first;
  fit : AreFit (tree_of g.W.Work.value ((g.D.Desk.meaning l.fn.desk).view l.place)) l.readies.items;
  tells : is_some (g.K.Sink.taken l.sink) ≡ is_some (g.K.Sink.taken l.fn.sink);
  later : g.K.Sink.faults l.fn.sink ≤ g.K.Sink.faults l.sink;
}

abbrev pub decreases-readies : goal.decreases-readies
decreases-readies g l = vec_len l.readies
