use Rattle.std.proofs.Common.{◌≡◌, ◌-◌, map, sym, ap, ◌∙◌, length, arith}
use Rattle.crossbeam_deque.specs.Handles.{stealer_deque, worker_deque}
use Rattle.worker_gate.specs.Rows.{tag, parts}
use Rattle.worker_gate.proofs.Lists.{all_same, map_through, written_back}
use Rattle.worker_gate.proofs.run.gather_batch.Goals as goal

pub work_all-requires-clause-gave : goal.work_all-requires-clause-gave
work_all-requires-clause-gave g c κs fits = rw c.as_mut_slice.ensures.value c.in_ok-seats.ensures.gave

pub work_all-requires-clause-row_gave : goal.work_all-requires-clause-row_gave
work_all-requires-clause-row_gave g c κs fits = rw c.as_mut_slice.ensures.value c.in_ok-seats.ensures.row_gave

pub returned-requires-clause-part : goal.returned-requires-clause-part
returned-requires-clause-part g c κs fits =
    let e : c.in_ok-seats.seats.len ≡ length c.work_all.new.seats = omega (arith, c.work_all.auto.seats, c.as_mut_slice.ensures.len, c.in_ok-seats.seats.ok) in
    let same = c.work_all.ensures.parts ∙ ap (map (λ s. parts s.own.deque)) c.as_mut_slice.ensures.value in
    let len : length c.work_all.new.seats ≡ c.args.workers = sym e ∙ c.in_ok-seats.seats.ok.0 ∙ c.in_ok-seats.ensures.len in
    rw (written_back c.in_ok-seats.seats.len c.work_all.new.seats c.in_ok-seats.seats.items e)
    (λ k d within. all_same c.work_all.new.seats c.in_ok-seats.seats.items (λ s. parts s.own.deque) (λ n. n ≡ 1024 - c.args.workers) same c.in_ok-seats.ensures.part k d within ∙ ap (λ n. 1024 - n) (sym len))

pub returned-requires-clause-rows : goal.returned-requires-clause-rows
returned-requires-clause-rows g c κs fits =
    let e : c.in_ok-seats.seats.len ≡ length c.work_all.new.seats = omega (arith, c.work_all.auto.seats, c.as_mut_slice.ensures.len, c.in_ok-seats.seats.ok) in
    let same = c.work_all.ensures.rows ∙ ap (map (λ s. map (λ r. stealer_deque r.stealer) s.row.items)) c.as_mut_slice.ensures.value in
    let tags = c.work_all.ensures.tags ∙ ap (map (λ s. tag s.own.deque)) c.as_mut_slice.ensures.value in
    let deques = map_through c.work_all.new.seats c.in_ok-seats.seats.items (λ s. tag s.own.deque) (λ s. tag s.own.deque) (λ t. t.0) tags in
    rw (written_back c.in_ok-seats.seats.len c.work_all.new.seats c.in_ok-seats.seats.items e)
    (λ k d within. all_same c.work_all.new.seats c.in_ok-seats.seats.items (λ s. map (λ r. stealer_deque r.stealer) s.row.items) (λ l. l ≡ map (λ s. worker_deque s.own.deque) c.in_ok-seats.seats.items) same c.in_ok-seats.ensures.rows k d within ∙ sym deques)

pub returned-requires-clause-gave : goal.returned-requires-clause-gave
returned-requires-clause-gave g c κs fits =
    let e : c.in_ok-seats.seats.len ≡ length c.work_all.new.seats = omega (arith, c.work_all.auto.seats, c.as_mut_slice.ensures.len, c.in_ok-seats.seats.ok) in
    rw (written_back c.in_ok-seats.seats.len c.work_all.new.seats c.in_ok-seats.seats.items e) c.work_all.ensures.gave

pub returned-requires-clause-row_gave : goal.returned-requires-clause-row_gave
returned-requires-clause-row_gave g c κs fits =
    let e : c.in_ok-seats.seats.len ≡ length c.work_all.new.seats = omega (arith, c.work_all.auto.seats, c.as_mut_slice.ensures.len, c.in_ok-seats.seats.ok) in
    rw (written_back c.in_ok-seats.seats.len c.work_all.new.seats c.in_ok-seats.seats.items e) c.work_all.ensures.row_gave

pub written-requires-clause-dealt : goal.written-requires-clause-dealt
written-requires-clause-dealt g c κs fits =
    let e : c.in_ok-seats.seats.len ≡ length c.work_all.new.seats = omega (arith, c.work_all.auto.seats, c.as_mut_slice.ensures.len, c.in_ok-seats.seats.ok) in
    let back = written_back c.in_ok-seats.seats.len c.work_all.new.seats c.in_ok-seats.seats.items e in
    let tags = c.in_ok-owns.ensures.tags ∙ ap (map (λ s. tag s.own.deque)) back ∙ c.work_all.ensures.tags ∙ ap (map (λ s. tag s.own.deque)) c.as_mut_slice.ensures.value in
    let puts = map_through c.in_ok-owns.owns.items c.in_ok-seats.seats.items (λ o. tag o.deque) (λ s. tag s.own.deque) (λ t. t.1) tags in
    rw puts c.in_ok-seats.ensures.dealt
