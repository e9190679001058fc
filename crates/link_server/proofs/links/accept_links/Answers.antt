use denote.Param.Send.{sendable}
use Rattle.std.proofs.Common.{◌≡◌, ap, subst, rules, false}
use Rattle.shared_board.specs.Boards.{BoardMeaning}
use Rattle.link_server.specs.Links.{Telling}
use Rattle.link_server.specs.Seats.{AcceptingMeaning, AreServed, IsSeated}
use Rattle.link_server.proofs.Accepting.{of_such, served_along, moved}
use Rattle.link_server.proofs.Crossing.{seat_send, hall_sync}
use Rattle.link_server.proofs.InPlace.{run_each}
use Rattle.link_server.proofs.links.accept_links.Goals as goal

pub run_all-requires-send-S : goal.run_all-requires-send-S
run_all-requires-send-S g c κs within =
    let e = c.type_bounds.send-W-Env in
    let s = c.type_bounds.send-W-State in
    let i = c.type_bounds.send-D-In in
    let o = c.type_bounds.send-D-Out in
    search (seat_send, sendable) depth 20

pub run_all-requires-sync-C : goal.run_all-requires-sync-C
run_all-requires-sync-C g c κs within =
    let e = c.type_bounds.send-W-Env in
    let s = c.type_bounds.send-W-State in
    let r = c.type_bounds.sync-R in
    let w = c.type_bounds.sync-W in
    let gate = c.type_bounds.sync-G in
    search (hall_sync, sendable) depth 20

pub returns-clause-served : goal.returns-clause-served
returns-clause-served g c =
    let hall = c.args.hall.now in
    let queue = c.run_all.new.queue in
    let tell : Telling g.row.D-In.Denot g.row.D-Out.Denot = record { left = g.D.In.Source.left; input_faults = g.D.In.Source.faults; taken = g.D.Out.Sink.taken; output_faults = g.D.Out.Sink.faults } in
    let served = served_along g.W.Work.value hall.board.now tell
    (of_such {B = AcceptingMeaning g.row.W-Env.Denot} queue
    (λ q. record { doors = record { links = g.D.Doors.links q.doors.now; address = g.D.Doors.listens_on q.doors.now; faults = g.D.Doors.faults q.doors.now }; waiting = q.waiting.items; failed = q.failed }))
    (run_each c.run_all.ensures.all
    (λ session left has.
    let seated : IsSeated g.W.Work.value has.0.now.board.now tell (g.D.In.Source.left session.input) session.pass left = search rules in
    subst (λ (board : BoardMeaning g.row.W-Env.Denot). IsSeated g.W.Work.value board tell (g.D.In.Source.left session.input) session.pass left)
    (ap (of_such {B = BoardMeaning g.row.W-Env.Denot} hall (λ h. h.board.now)) has.1) seated)) in
    -- the doors are given back as the queue left them
    let name : queue.doors.ghost_name ≡ _ = c.run_all.ensures.same in
    moved
    (λ (doors : g.row.D.Denot). AreServed g.W.Work.value hall.board.now tell
    (record { doors = record { links = g.D.Doors.links c.args.doors.now; address = g.D.Doors.listens_on c.args.doors.now; faults = g.D.Doors.faults c.args.doors.now }; waiting = c.args.waiting.items; failed = false })
    (record { doors = record { links = g.D.Doors.links doors; address = g.D.Doors.listens_on doors; faults = g.D.Doors.faults doors }; waiting = queue.waiting.items; failed = queue.failed })
    c.args.seats.now.items c.run_all.new.done.items)
    queue.doors.now served (search rules)
