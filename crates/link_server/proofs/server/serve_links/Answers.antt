use Rattle.std.proofs.Common.{◌≡◌, ℕ, List, Option, length, map, refl, sym, ap, ◌∙◌, subst, arith}
use Rattle.std.proofs.lemmas.List.{length-map}
use Rattle.link_server.specs.Links.{Telling, served_as}
use Rattle.link_server.specs.Served.{FitsLinks}
use Rattle.link_server.proofs.Complete.{completes}
use Rattle.link_server.proofs.Serving.{waiting_own, cleared_count, over}
use Rattle.link_server.proofs.server.serve_links.Goals as goal

pub accept_links-waiting-requires-clause-waiting : goal.accept_links-waiting-requires-clause-waiting
accept_links-waiting-requires-clause-waiting g c κs within =
    (c.requires.workers.0, c.requires.workers.1, waiting_own g.W.Work.value c.args.places.board c.args.places.waiting.items c.requires.passes)

pub put_back-requires : goal.put_back-requires
put_back-requires g c =
    let places = c.args.places in
    let tell : Telling g.row.D-In.Denot g.row.D-Out.Denot = record { left = g.D.In.Source.left; input_faults = g.D.In.Source.faults; taken = g.D.Out.Sink.taken; output_faults = g.D.Out.Sink.faults } in
    let count = cleared_count g.W.Work.value places.board tell _ _ _ _ places.unseated c.accept_links-waiting.ensures.served c.requires.passes _ _ places.none_back c.clear_seats.ensures.passes in
    record { room = omega (arith, count, c.clear_seats.new.passes.ok.0, c.accept_links-waiting.result.waiting.ok.0, places.waiting.ok.0, c.clear_seats.ensures.capacity, places.back_room) }

pub close_board-requires-clause-own : goal.close_board-requires-clause-own
close_board-requires-clause-own g c =
    let places = c.args.places in
    let tell : Telling g.row.D-In.Denot g.row.D-Out.Denot = record { left = g.D.In.Source.left; input_faults = g.D.In.Source.faults; taken = g.D.Out.Sink.taken; output_faults = g.D.Out.Sink.faults } in
    let o = over g.W.Work.value places.board tell _ _ _ _ places.unseated c.accept_links-waiting.ensures.served c.requires.passes _ _ _ _ _ places.none_back places.none_served
    c.clear_seats.ensures.passes c.put_back.ensures.passes c.clear_seats.ensures.served in
    o.own

pub close_board-requires-clause-numbers : goal.close_board-requires-clause-numbers
close_board-requires-clause-numbers g c =
    let places = c.args.places in
    let tell : Telling g.row.D-In.Denot g.row.D-Out.Denot = record { left = g.D.In.Source.left; input_faults = g.D.In.Source.faults; taken = g.D.Out.Sink.taken; output_faults = g.D.Out.Sink.faults } in
    let o = over g.W.Work.value places.board tell _ _ _ _ places.unseated c.accept_links-waiting.ensures.served c.requires.passes _ _ _ _ _ places.none_back places.none_served
    c.clear_seats.ensures.passes c.put_back.ensures.passes c.clear_seats.ensures.served in
    o.numbers

pub close_board-requires-clause-notes : goal.close_board-requires-clause-notes
close_board-requires-clause-notes g c =
    let places = c.args.places in
    let tell : Telling g.row.D-In.Denot g.row.D-Out.Denot = record { left = g.D.In.Source.left; input_faults = g.D.In.Source.faults; taken = g.D.Out.Sink.taken; output_faults = g.D.Out.Sink.faults } in
    let o = over g.W.Work.value places.board tell _ _ _ _ places.unseated c.accept_links-waiting.ensures.served c.requires.passes _ _ _ _ _ places.none_back places.none_served
    c.clear_seats.ensures.passes c.put_back.ensures.passes c.clear_seats.ensures.served in
    o.notes

pub returns-clause-count : goal.returns-clause-count
returns-clause-count g c =
    let places = c.args.places in
    let tell : Telling g.row.D-In.Denot g.row.D-Out.Denot = record { left = g.D.In.Source.left; input_faults = g.D.In.Source.faults; taken = g.D.Out.Sink.taken; output_faults = g.D.Out.Sink.faults } in
    let o = over g.W.Work.value places.board tell _ _ _ _ places.unseated c.accept_links-waiting.ensures.served c.requires.passes _ _ _ _ _ places.none_back places.none_served
    c.clear_seats.ensures.passes c.put_back.ensures.passes c.clear_seats.ensures.served in
    let served = ap (λ v. v.items) c.close_board.ensures.served in
    let long : length c.clear_seats.new.served.items ≡ c.close_board.result.served.len = sym (ap length served) ∙ sym c.close_board.result.served.ok.0 in
    rw (← long, c.close_board.ensures.failed) (o.counts refl)

pub returns-clause-left : goal.returns-clause-left
returns-clause-left g c =
    let places = c.args.places in
    let tell : Telling g.row.D-In.Denot g.row.D-Out.Denot = record { left = g.D.In.Source.left; input_faults = g.D.In.Source.faults; taken = g.D.Out.Sink.taken; output_faults = g.D.Out.Sink.faults } in
    let o = over g.W.Work.value places.board tell _ _ _ _ places.unseated c.accept_links-waiting.ensures.served c.requires.passes _ _ _ _ _ places.none_back places.none_served
    c.clear_seats.ensures.passes c.put_back.ensures.passes c.clear_seats.ensures.served in
    let served = ap (λ v. v.items) c.close_board.ensures.served in
    let long : length c.clear_seats.new.served.items ≡ c.close_board.result.served.len = sym (ap length served) ∙ sym c.close_board.result.served.ok.0 in
    rw (← long) o.left

pub returns-clause-fits : goal.returns-clause-fits
returns-clause-fits g c =
    let places = c.args.places in
    let tell : Telling g.row.D-In.Denot g.row.D-Out.Denot = record { left = g.D.In.Source.left; input_faults = g.D.In.Source.faults; taken = g.D.Out.Sink.taken; output_faults = g.D.Out.Sink.faults } in
    let o = over g.W.Work.value places.board tell _ _ _ _ places.unseated c.accept_links-waiting.ensures.served c.requires.passes _ _ _ _ _ places.none_back places.none_served
    c.clear_seats.ensures.passes c.put_back.ensures.passes c.clear_seats.ensures.served in
    rw c.close_board.ensures.served (o.fits _ _ c.close_board.ensures.legal c.close_board.ensures.room c.close_board.ensures.journal c.close_board.ensures.last)

pub returns-clause-complete : goal.returns-clause-complete
returns-clause-complete g c =
    let places = c.args.places in
    let tell : Telling g.row.D-In.Denot g.row.D-Out.Denot = record { left = g.D.In.Source.left; input_faults = g.D.In.Source.faults; taken = g.D.Out.Sink.taken; output_faults = g.D.Out.Sink.faults } in
    let o = over g.W.Work.value places.board tell _ _ _ _ places.unseated c.accept_links-waiting.ensures.served c.requires.passes _ _ _ _ _ places.none_back places.none_served
    c.clear_seats.ensures.passes c.put_back.ensures.passes c.clear_seats.ensures.served in
    let fits = o.fits _ _ c.close_board.ensures.legal c.close_board.ensures.room c.close_board.ensures.journal c.close_board.ensures.last in
    let long = length-map c.clear_seats.new.served.items (served_as tell) in
    let few = o.few in
    rw c.close_board.ensures.served (λ inputs told.
    completes g.W.Work.value places.board.lock.the_ground inputs places.board.passes (map (served_as tell) c.clear_seats.new.served.items) c.close_board.result.journal.items c.close_board.result.last
    (subst (λ (links : Option (List (List ℕ))). FitsLinks g.W.Work.value places.board.lock.the_ground links (map (served_as tell) c.clear_seats.new.served.items) c.close_board.result.journal.items c.close_board.result.last) told fits)
    (omega (arith, long, few)))

pub returns-clause-address : goal.returns-clause-address
returns-clause-address g c =
    let places = c.args.places in
    let tell : Telling g.row.D-In.Denot g.row.D-Out.Denot = record { left = g.D.In.Source.left; input_faults = g.D.In.Source.faults; taken = g.D.Out.Sink.taken; output_faults = g.D.Out.Sink.faults } in
    let o = over g.W.Work.value places.board tell _ _ _ _ places.unseated c.accept_links-waiting.ensures.served c.requires.passes _ _ _ _ _ places.none_back places.none_served
    c.clear_seats.ensures.passes c.put_back.ensures.passes c.clear_seats.ensures.served in
    o.address

pub returns-clause-later : goal.returns-clause-later
returns-clause-later g c =
    let places = c.args.places in
    let tell : Telling g.row.D-In.Denot g.row.D-Out.Denot = record { left = g.D.In.Source.left; input_faults = g.D.In.Source.faults; taken = g.D.Out.Sink.taken; output_faults = g.D.Out.Sink.faults } in
    let o = over g.W.Work.value places.board tell _ _ _ _ places.unseated c.accept_links-waiting.ensures.served c.requires.passes _ _ _ _ _ places.none_back places.none_served
    c.clear_seats.ensures.passes c.put_back.ensures.passes c.clear_seats.ensures.served in
    o.later
