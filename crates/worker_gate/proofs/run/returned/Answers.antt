use Rattle.std.proofs.Common.{◌≡◌, ◌-◌, map, sym, ap, ◌∙◌, length, arith}
use Rattle.std.specs.List.{All}
use Rattle.std.proofs.lemmas.List.{length-map}
use Rattle.crossbeam_deque.specs.Handles.{stealer_deque, worker_deque}
use Rattle.worker_gate.specs.Results.{AllGave}
use Rattle.worker_gate.specs.Rows.{tag, parts}
use Rattle.worker_gate.proofs.Lists.{all_over, map_twice, written_back}
use Rattle.worker_gate.proofs.run.returned.Goals as goal

pub take_all_back-requires-clause-part : goal.take_all_back-requires-clause-part
take_all_back-requires-clause-part g c κs fits =
    let own_is = sym c.in_ok-owns.ensures.owns ∙ sym c.as_mut_slice.ensures.value in
    let len : length c.as_mut_slice.result.now ≡ length c.args.seats.items = ap length (sym own_is) ∙ length-map c.args.seats.items (λ s. s.own) in
    all_over c.args.seats.items c.as_mut_slice.result.now (λ s. s.own) (λ o. parts o.deque ≡ 1024 - length c.as_mut_slice.result.now) own_is (λ k d w. c.requires.part k d w ∙ ap (λ n. 1024 - n) (sym len))

pub take_all_back-requires-clause-gave : goal.take_all_back-requires-clause-gave
take_all_back-requires-clause-gave g c κs fits =
    all_over c.args.seats.items c.as_mut_slice.result.now (λ s. s.own) (λ o. AllGave g.K.Batch.jobs g.J.Job.gives g.K.Batch.told o.answers.items) (sym c.in_ok-owns.ensures.owns ∙ sym c.as_mut_slice.ensures.value) c.requires.gave

pub take_all_back-requires-clause-rows : goal.take_all_back-requires-clause-rows
take_all_back-requires-clause-rows g c κs fits =
    let own_is = sym c.in_ok-owns.ensures.owns ∙ sym c.as_mut_slice.ensures.value in
    let deques = sym (map_twice c.args.seats.items (λ s. s.own) (λ o. worker_deque o.deque)) ∙ ap (map (λ o. worker_deque o.deque)) own_is in
    all_over c.args.seats.items c.in_ok-owns.rows.items (λ s. s.row) (λ w. map (λ r. stealer_deque r.stealer) w.items ≡ map (λ o. worker_deque o.deque) c.as_mut_slice.result.now) (sym c.in_ok-owns.ensures.rows) (λ k d w. c.requires.rows k d w ∙ deques)

pub take_all_back-requires-clause-row_gave : goal.take_all_back-requires-clause-row_gave
take_all_back-requires-clause-row_gave g c κs fits =
    all_over c.args.seats.items c.in_ok-owns.rows.items (λ s. s.row) (λ w. All (λ r. AllGave g.K.Batch.jobs g.J.Job.gives g.K.Batch.told r.answers.items) w.items) (sym c.in_ok-owns.ensures.rows) c.requires.row_gave

pub returns-clause-tags : goal.returns-clause-tags
returns-clause-tags g c =
    let e : c.in_ok-owns.owns.len ≡ length c.take_all_back.new.owns = omega (arith, c.take_all_back.auto.owns, c.as_mut_slice.ensures.len, c.in_ok-owns.owns.ok) in
    let own_is = sym c.in_ok-owns.ensures.owns ∙ sym c.as_mut_slice.ensures.value in
    let tags = sym (map_twice c.args.seats.items (λ s. s.own) (λ o. tag o.deque)) ∙ ap (map (λ o. tag o.deque)) own_is in
    rw (written_back c.in_ok-owns.owns.len c.take_all_back.new.owns c.in_ok-owns.owns.items e) (c.in_ok-take_all_back.ensures.tags ∙ sym tags)

pub returns-clause-whole : goal.returns-clause-whole
returns-clause-whole g c =
    let e : c.in_ok-owns.owns.len ≡ length c.take_all_back.new.owns = omega (arith, c.take_all_back.auto.owns, c.as_mut_slice.ensures.len, c.in_ok-owns.owns.ok) in
    rw (written_back c.in_ok-owns.owns.len c.take_all_back.new.owns c.in_ok-owns.owns.items e) c.in_ok-take_all_back.ensures.whole

pub returns-clause-gave : goal.returns-clause-gave
returns-clause-gave g c =
    let e : c.in_ok-owns.owns.len ≡ length c.take_all_back.new.owns = omega (arith, c.take_all_back.auto.owns, c.as_mut_slice.ensures.len, c.in_ok-owns.owns.ok) in
    rw (written_back c.in_ok-owns.owns.len c.take_all_back.new.owns c.in_ok-owns.owns.items e) c.in_ok-take_all_back.ensures.gave
