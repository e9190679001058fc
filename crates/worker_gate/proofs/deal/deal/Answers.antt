use Rattle.std.proofs.Common.{◌≡◌, ◌+◌, [], map, ap, sym, subst, ◌∙◌, length, arith}
use Rattle.std.specs.List.{range_with_len}
use Rattle.std.proofs.lemmas.List.{length_push, length-map, map-append}
use Rattle.worker_gate.specs.Rows.{parts, put_of, start, Runs}
use Rattle.worker_gate.proofs.Lists.{all_push}
use Rattle.worker_gate.proofs.Deals.{dealt_more, is_run, range_has, runs_more, start_end}
use Rattle.worker_gate.proofs.deal.deal.Goals as goal

pub loop-worker-preserved : goal.loop-worker-preserved
loop-worker-preserved g c =
    let items = c.in_ok-push.ensures.items in
    let puts = map (λ o. put_of o.deque) c.loop-worker.owns.items in
    let put = put_of c.fill.new.own.deque in
    let is : put ≡ range_with_len c.loop-worker.at c.run_length-size.result = c.in_ok-fill.ensures.put in
    let run = is_run c.len-count.result c.args.workers c.loop-worker.worker c.loop-worker.at c.run_length-size.result put c.loop-worker.invariant.at_is c.run_length-size.ensures.next c.run_length-size.ensures.even.0 c.run_length-size.ensures.even.1 is in
    let count : length puts ≡ c.loop-worker.worker = length-map c.loop-worker.owns.items (λ o. put_of o.deque) ∙ c.loop-worker.invariant.len in
    record {
      at_is = ap (λ n. n + c.run_length-size.result) c.loop-worker.invariant.at_is ∙ c.run_length-size.ensures.next;
      rest = c.in_ok-fill.ensures.rest;
      len = ap length items ∙ length_push c.loop-worker.owns.items c.fill.new.own ∙ ap (λ n. n + 1) c.loop-worker.invariant.len;
      whole = rw items (all_push c.loop-worker.owns.items c.fill.new.own (λ o. parts o.deque ≡ 1024) c.loop-worker.invariant.whole c.in_ok-fill.ensures.fresh.0);
      none = rw items (all_push c.loop-worker.owns.items c.fill.new.own (λ o. o.answers.items ≡ []) c.loop-worker.invariant.none c.in_ok-fill.ensures.fresh.1);
      dealt = rw (items, map-append) (dealt_more c.loop-worker.at c.run_length-size.result puts put c.loop-worker.invariant.dealt (λ p low high. rw is (range_has c.loop-worker.at c.run_length-size.result p low high)));
      runs = rw (items, map-append) (runs_more c.len-count.result c.args.workers c.loop-worker.worker puts put count c.loop-worker.invariant.runs run);
    }

pub returns-clause-dealt : goal.returns-clause-dealt
returns-clause-dealt g c =
    let last : c.loop-worker.worker ≡ c.args.workers = omega (arith, c.loop-worker-test.false, c.loop-worker.auto.worker-end) in
    let at : c.loop-worker.at ≡ c.len-count.result = c.loop-worker.invariant.at_is ∙ ap (λ w. start c.len-count.result c.args.workers w) last ∙ start_end c.len-count.result c.args.workers c.requires.workers.0 in
    let count : c.loop-worker.at ≡ length g.K.Batch.jobs = at ∙ c.len-count.ensures ∙ c.args.jobs.ok.0 ∙ sym (ap length c.requires.jobs.0) in
    λ p low. c.loop-worker.invariant.dealt p (omega (arith, count, low))

pub returns-clause-runs : goal.returns-clause-runs
returns-clause-runs g c =
    let count : c.len-count.result ≡ length g.K.Batch.jobs = c.len-count.ensures ∙ c.args.jobs.ok.0 ∙ sym (ap length c.requires.jobs.0) in
    subst (λ n. Runs n c.args.workers (map (λ o. put_of o.deque) c.loop-worker.owns.items)) count c.loop-worker.invariant.runs
