use Rattle.std.proofs.Common.{ℕ, List, Option, subst}
use Rattle.shared_board.specs.Calls.{tree_with}
use Rattle.session_server.specs.PassSession.{PassSession}
use Rattle.link_server.proofs.Seating.{none_taken_yet, above}
use Rattle.link_server.proofs.seat.serve_seat.Goals as goal

pub returns : goal.returns
returns g c =
    let seat = c.args.seat in
    let ground = c.args.hall.now.board.now.lock.the_ground in
    let ready = c.requires.ready.3 in
    let new = c.serve_session-end.new in
    let e = c.serve_session-end.ensures in
    record {
      own = e.own;
      same = e.same;
      session = subst (λ (out : Option (List ℕ)). PassSession g.W.Work.value seat.pass.number (g.I.Source.left seat.input) (g.I.Source.left new.source) (tree_with ground seat.pass.seen) (tree_with ground new.pass.seen) out (g.O.Sink.taken new.sink) c.serve_session-end.result)
          (none_taken_yet (g.O.Sink.taken seat.output) (g.O.Sink.taken new.sink) ready.none_taken e.tells_out) e.session;
      turns = e.turns;
      read = λ is. above _ _ ready.input_faults (e.read is);
      write = λ is. above _ _ ready.output_faults (e.write is);
    }
