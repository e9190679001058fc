use Rattle.std.proofs.Common.{◌≡◌, ◌++◌, ◌∷◌, ◌∙◌, sym, map, ap}
use Rattle.std.specs.List.{All}
use Rattle.crossbeam_deque.specs.Handles.{stealer_deque, worker_deque}
use Rattle.worker_gate.specs.Results.{AllGave}
use Rattle.worker_gate.specs.Rows.{tag}
use Rattle.worker_gate.proofs.Lists.{map_through, all_seam}
use Rattle.worker_gate.proofs.seats.take_all_back.Goals as goal

pub take_back-requires-clause-row : goal.take_back-requires-clause-row
take_back-requires-clause-row g c κs fits =
    let row_is : c.args.rows.items ≡ c.loop-row.yielded ++ c.in-Some.row ∷ c.next.new.self.rest.items = c.loop-row.invariant.rest ∙ ap (λ l. c.loop-row.yielded ++ l) c.in-Some.ensures.steps.0 in
    let deques = map_through c.loop-row.owns c.args.owns.now (λ o. tag o.deque) (λ o. tag o.deque) (λ t. t.0) c.loop-row.invariant.tags in
    all_seam c.args.rows.items c.loop-row.yielded c.next.new.self.rest.items c.in-Some.row (λ w. map (λ r. stealer_deque r.stealer) w.items ≡ map (λ o. worker_deque o.deque) c.args.owns.now) row_is c.requires.rows ∙ sym deques

pub take_back-requires-clause-row_gave : goal.take_back-requires-clause-row_gave
take_back-requires-clause-row_gave g c κs fits =
    let row_is : c.args.rows.items ≡ c.loop-row.yielded ++ c.in-Some.row ∷ c.next.new.self.rest.items = c.loop-row.invariant.rest ∙ ap (λ l. c.loop-row.yielded ++ l) c.in-Some.ensures.steps.0 in
    all_seam c.args.rows.items c.loop-row.yielded c.next.new.self.rest.items c.in-Some.row (λ w. All (λ r. AllGave g.K.Batch.jobs g.J.Job.gives g.K.Batch.told r.answers.items) w.items) row_is c.requires.row_gave
