use Rattle.std.proofs.Common.{◌≡◌, ◌≤◌, ◌-◌, ◌^◌, is_some}
use Rattle.session_server.specs.Desks.{Went}
use Rattle.session_server.specs.Progress.{Runs}
use Rattle.session_server.proofs.run.run.Given as goal

abbrev pub invariant-lines : goal.invariant-lines
invariant-lines g l = record {
  own : g.D.Desk.is_own l.fn.desk l.place;
  went : Went (g.D.Desk.meaning l.fn.desk) l.fn.place l.place;
  runs : Runs g.W.Work.value (g.D.Desk.meaning l.fn.desk).alone (g.D.Desk.meaning l.fn.desk).pass (g.S.Source.left l.fn.source) (g.S.Source.left l.source) ((g.D.Desk.meaning l.fn.desk).view l.fn.place) ((g.D.Desk.meaning l.fn.desk).view l.place) (g.K.Sink.taken l.fn.sink) (g.K.Sink.taken l.sink) l.lines;
  tells_in : is_some (g.S.Source.left l.source) ≡ is_some (g.S.Source.left l.fn.source);
  tells_out : is_some (g.K.Sink.taken l.sink) ≡ is_some (g.K.Sink.taken l.fn.sink);
  later_in : g.S.Source.faults l.fn.source ≤ g.S.Source.faults l.source;
  later_out : g.K.Sink.faults l.fn.sink ≤ g.K.Sink.faults l.sink;
  most : l.lines.used ≤ 2 ^ 40;
}

abbrev pub decreases-lines : goal.decreases-lines
decreases-lines g l = 2 ^ 40 - l.lines.used
