use Rattle.std.proofs.Common.{◌≡◌, ◌-◌, ◌+◌, ◌∙◌, map, ap, length, arith}
use Rattle.std.specs.List.{All}
use Rattle.std.proofs.lemmas.List.{length_push}
use Rattle.crossbeam_deque.specs.Handles.{stealer_deque, worker_deque}
use Rattle.worker_gate.specs.Results.{AllGave}
use Rattle.worker_gate.specs.Rows.{tag}
use Rattle.worker_gate.proofs.Lists.{all_push, map_through}
use Rattle.worker_gate.proofs.seats.rows_of.Goals as goal

pub loop-done-preserved : goal.loop-done-preserved
loop-done-preserved g c =
    let items = c.in_ok-push.ensures.items in
    let deques = map_through c.loop-done.owns c.args.owns.now (λ o. tag o.deque) (λ o. tag o.deque) (λ t. t.0) c.loop-done.invariant.tags in
    let less : (1024 - c.loop-done.done) - 1 ≡ 1024 - (c.loop-done.done + 1) = omega arith in
    record {
      tags = c.in_ok-row.ensures.tags ∙ c.loop-done.invariant.tags;
      part = λ k d within. c.in_ok-row.ensures.parts k d within ∙ less;
      gave = c.in_ok-row.ensures.gave;
      len = ap length items ∙ length_push c.loop-done.rows.items c.in_ok-row.row ∙ ap (λ n. n + 1) c.loop-done.invariant.len;
      rows = rw items (all_push c.loop-done.rows.items c.in_ok-row.row (λ w. map (λ r. stealer_deque r.stealer) w.items ≡ map (λ o. worker_deque o.deque) c.args.owns.now) c.loop-done.invariant.rows (c.in_ok-row.ensures.row ∙ deques));
      row_gave = rw items (all_push c.loop-done.rows.items c.in_ok-row.row (λ w. All (λ r. AllGave g.K.Batch.jobs g.J.Job.gives g.K.Batch.told r.answers.items) w.items) c.loop-done.invariant.row_gave c.in_ok-row.ensures.row_gave);
    }
