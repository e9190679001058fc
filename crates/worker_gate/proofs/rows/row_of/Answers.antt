use Rattle.std.proofs.Common.{◌≡◌, ◌-◌, ◌<◌, ◌∙◌, get_or, length, arith}
use Rattle.crossbeam_deque.specs.Handles.{stealer_deque}
use Rattle.worker_gate.specs.Results.{AllGave}
use Rattle.worker_gate.specs.Rows.{tag, parts}
use Rattle.worker_gate.proofs.Lists.{map_set, all_set, all_push, turn_left, turn_right, row_push}
use Rattle.worker_gate.proofs.Results.{AllGave-none}
use Rattle.worker_gate.proofs.rows.row_of.Goals as goal

pub loop-own-preserved : goal.loop-own-preserved
loop-own-preserved g c =
    let within : c.loop-own.own-index < length c.loop-own.owns = omega (arith, c.loop-own-test.true, c.loop-own.auto.owns) in
    let was : parts (get_or c.loop-own.owns c.loop-own.own-index c.own-item.result).deque ≡ c.args.left = c.loop-own.invariant.whole c.loop-own.own-index c.own-item.result (omega arith) within in
    let part = c.in_ok-steal_pass.ensures.part in
    let now : parts c.steal_pass.new.self.deque ≡ c.args.left - 1 = omega arith in
    record {
      tags = map_set c.loop-own.owns _ c.own-item.result c.steal_pass.new.self (λ o. tag o.deque) (λ i. (c.steal_pass.ensures.same.0 i, c.steal_pass.ensures.put i)) ∙ c.loop-own.invariant.tags;
      split = turn_left c.loop-own.owns _ c.steal_pass.new.self (λ o. parts o.deque ≡ c.args.left - 1) (λ o. parts o.deque ≡ c.args.left) within c.loop-own.invariant.split now;
      whole = turn_right c.loop-own.owns _ c.steal_pass.new.self (λ o. parts o.deque ≡ c.args.left) c.loop-own.invariant.whole;
      gave = all_set c.loop-own.owns _ c.steal_pass.new.self (λ o. AllGave g.K.Batch.jobs g.J.Job.gives g.K.Batch.told o.answers.items) (rw c.steal_pass.ensures.same.1 (c.loop-own.invariant.gave c.loop-own.own-index c.own-item.result within)) c.loop-own.invariant.gave;
      row = rw c.in_ok-push.ensures.items (row_push c.loop-own.row.items c.in_ok-steal_pass.steal_pass c.loop-own.owns c.args.owns.now c.loop-own.own-index c.own-item.result (λ r. stealer_deque r.stealer) (λ o. tag o.deque) (λ t. t.0) within c.loop-own.invariant.tags c.loop-own.invariant.row c.in_ok-steal_pass.ensures.steal_pass.0);
      row_gave = rw c.in_ok-push.ensures.items (all_push c.loop-own.row.items c.in_ok-steal_pass.steal_pass (λ r. AllGave g.K.Batch.jobs g.J.Job.gives g.K.Batch.told r.answers.items) c.loop-own.invariant.row_gave (AllGave-none g.K.Batch.jobs g.J.Job.gives g.K.Batch.told _ c.in_ok-steal_pass.ensures.steal_pass.1));
    }
