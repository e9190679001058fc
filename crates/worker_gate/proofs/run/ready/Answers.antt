use Rattle.std.proofs.Common.{◌≡◌, ◌-◌, map, sym, ap, ◌∙◌, length, arith}
use Rattle.std.specs.List.{All}
use Rattle.crossbeam_deque.specs.Handles.{stealer_deque, worker_deque}
use Rattle.worker_gate.specs.Results.{AllGave}
use Rattle.worker_gate.specs.Rows.{tag, parts, put_of}
use Rattle.worker_gate.proofs.Lists.{all_under, map_through, map_twice, written_back}
use Rattle.worker_gate.proofs.run.ready.Goals as goal

pub returns-clause-gave : goal.returns-clause-gave
returns-clause-gave g c =
    let e : c.in_ok-owns.owns.len ≡ length c.rows_of.new.owns = omega (arith, c.rows_of.auto.owns, c.as_mut_slice.ensures.len, c.in_ok-owns.owns.ok) in
    let own_is = c.in_ok-seats.ensures.owns ∙ written_back c.in_ok-owns.owns.len c.rows_of.new.owns c.in_ok-owns.owns.items e in
    all_under c.in_ok-seats.seats.items c.rows_of.new.owns (λ s. s.own) (λ o. AllGave g.K.Batch.jobs g.J.Job.gives g.K.Batch.told o.answers.items) own_is c.in_ok-rows.ensures.gave

pub returns-clause-part : goal.returns-clause-part
returns-clause-part g c =
    let e : c.in_ok-owns.owns.len ≡ length c.rows_of.new.owns = omega (arith, c.rows_of.auto.owns, c.as_mut_slice.ensures.len, c.in_ok-owns.owns.ok) in
    let own_is = c.in_ok-seats.ensures.owns ∙ written_back c.in_ok-owns.owns.len c.rows_of.new.owns c.in_ok-owns.owns.items e in
    let len : length c.as_mut_slice.result.now ≡ c.args.workers = ap length c.as_mut_slice.ensures.value ∙ c.in_ok-owns.ensures.len in
    λ k d within. all_under c.in_ok-seats.seats.items c.rows_of.new.owns (λ s. s.own) (λ o. parts o.deque ≡ 1024 - length c.as_mut_slice.result.now) own_is c.in_ok-rows.ensures.parts k d within ∙ ap (λ n. 1024 - n) len

pub returns-clause-row_gave : goal.returns-clause-row_gave
returns-clause-row_gave g c =
    all_under c.in_ok-seats.seats.items c.in_ok-rows.rows.items (λ s. s.row) (λ w. All (λ r. AllGave g.K.Batch.jobs g.J.Job.gives g.K.Batch.told r.answers.items) w.items) c.in_ok-seats.ensures.rows c.in_ok-rows.ensures.row_gave

pub returns-clause-rows : goal.returns-clause-rows
returns-clause-rows g c =
    let e : c.in_ok-owns.owns.len ≡ length c.rows_of.new.owns = omega (arith, c.rows_of.auto.owns, c.as_mut_slice.ensures.len, c.in_ok-owns.owns.ok) in
    let own_is = c.in_ok-seats.ensures.owns ∙ written_back c.in_ok-owns.owns.len c.rows_of.new.owns c.in_ok-owns.owns.items e in
    let tags = sym (map_twice c.in_ok-seats.seats.items (λ s. s.own) (λ o. tag o.deque)) ∙ ap (map (λ o. tag o.deque)) own_is ∙ c.in_ok-rows.ensures.tags in
    let deques = map_through c.in_ok-seats.seats.items c.as_mut_slice.result.now (λ s. tag s.own.deque) (λ o. tag o.deque) (λ t. t.0) tags in
    λ k d within. all_under c.in_ok-seats.seats.items c.in_ok-rows.rows.items (λ s. s.row) (λ w. map (λ r. stealer_deque r.stealer) w.items ≡ map (λ o. worker_deque o.deque) c.as_mut_slice.result.now) c.in_ok-seats.ensures.rows c.in_ok-rows.ensures.rows k d within ∙ sym deques

pub returns-clause-dealt : goal.returns-clause-dealt
returns-clause-dealt g c =
    let e : c.in_ok-owns.owns.len ≡ length c.rows_of.new.owns = omega (arith, c.rows_of.auto.owns, c.as_mut_slice.ensures.len, c.in_ok-owns.owns.ok) in
    let own_is = c.in_ok-seats.ensures.owns ∙ written_back c.in_ok-owns.owns.len c.rows_of.new.owns c.in_ok-owns.owns.items e in
    let tags = sym (map_twice c.in_ok-seats.seats.items (λ s. s.own) (λ o. tag o.deque)) ∙ ap (map (λ o. tag o.deque)) own_is ∙ c.in_ok-rows.ensures.tags in
    let puts = map_through c.in_ok-seats.seats.items c.as_mut_slice.result.now (λ s. tag s.own.deque) (λ o. tag o.deque) (λ t. t.1) tags ∙ ap (map (λ o. put_of o.deque)) c.as_mut_slice.ensures.value in
    rw puts c.in_ok-owns.ensures.dealt
