use Rattle.std.proofs.Common.{◌≡◌, ◌+◌, ◌<◌, ◌∙◌, ◌++◌, ◌∷◌, [], ap, sym, append_assoc, length-append, get_or, length, arith}
use Rattle.crossbeam_deque.specs.Handles.{stealer_deque, worker_deque}
use Rattle.worker_gate.specs.declared.account.Account.{Account}
use Rattle.worker_gate.specs.Results.{AllGave}
use Rattle.worker_gate.specs.Rows.{tag, parts}
use Rattle.std.proofs.lemmas.List.{length_push}
use Rattle.worker_gate.proofs.Lists.{map_set, all_set, turn_left, turn_right, seam_at, seam_within, all_seam, length_same}
use Rattle.worker_gate.proofs.rows.take_back.Goals as goal

pub absorb-requires-clause-deque : goal.absorb-requires-clause-deque
absorb-requires-clause-deque g c κs fits =
    let row_is : c.args.row.items ≡ c.loop-steal_pass.yielded ++ c.in-Some.steal_pass ∷ c.next.new.self.rest.items = c.loop-steal_pass.invariant.rest ∙ ap (λ l. c.loop-steal_pass.yielded ++ l) c.in-Some.ensures.steps.0 in
    seam_at c.args.row.items c.loop-steal_pass.yielded c.next.new.self.rest.items c.in-Some.steal_pass c.loop-steal_pass.owns c.args.owns.now c.index-owns-at.result c.loop-steal_pass.at (λ r. stealer_deque r.stealer) (λ o. tag o.deque) (λ t. t.0) row_is c.loop-steal_pass.invariant.at_is c.requires.row c.loop-steal_pass.invariant.tags

pub absorb-requires-clause-part : goal.absorb-requires-clause-part
absorb-requires-clause-part g c κs fits =
    let row_is : c.args.row.items ≡ c.loop-steal_pass.yielded ++ c.in-Some.steal_pass ∷ c.next.new.self.rest.items = c.loop-steal_pass.invariant.rest ∙ ap (λ l. c.loop-steal_pass.yielded ++ l) c.in-Some.ensures.steps.0 in
    let within : c.loop-steal_pass.at < length c.loop-steal_pass.owns = seam_within c.args.row.items c.loop-steal_pass.yielded c.next.new.self.rest.items c.in-Some.steal_pass c.loop-steal_pass.owns c.args.owns.now c.loop-steal_pass.at (λ r. stealer_deque r.stealer) (λ o. tag o.deque) (λ t. t.0) row_is c.loop-steal_pass.invariant.at_is c.requires.row c.loop-steal_pass.invariant.tags in
    let was : parts (get_or c.loop-steal_pass.owns c.loop-steal_pass.at c.index-owns-at.result).deque ≡ c.args.have = c.loop-steal_pass.invariant.out c.loop-steal_pass.at c.index-owns-at.result (omega arith) within in
    omega (arith, was, c.requires.have.0)

pub absorb-requires-clause-gave : goal.absorb-requires-clause-gave
absorb-requires-clause-gave g c κs fits =
    let row_is : c.args.row.items ≡ c.loop-steal_pass.yielded ++ c.in-Some.steal_pass ∷ c.next.new.self.rest.items = c.loop-steal_pass.invariant.rest ∙ ap (λ l. c.loop-steal_pass.yielded ++ l) c.in-Some.ensures.steps.0 in
    let within : c.loop-steal_pass.at < length c.loop-steal_pass.owns = seam_within c.args.row.items c.loop-steal_pass.yielded c.next.new.self.rest.items c.in-Some.steal_pass c.loop-steal_pass.owns c.args.owns.now c.loop-steal_pass.at (λ r. stealer_deque r.stealer) (λ o. tag o.deque) (λ t. t.0) row_is c.loop-steal_pass.invariant.at_is c.requires.row c.loop-steal_pass.invariant.tags in
    (c.loop-steal_pass.invariant.gave c.loop-steal_pass.at c.index-owns-at.result within, all_seam c.args.row.items c.loop-steal_pass.yielded c.next.new.self.rest.items c.in-Some.steal_pass (λ r. AllGave g.K.Batch.jobs g.J.Job.gives g.K.Batch.told r.answers.items) row_is c.requires.row_gave)

pub loop-steal_pass-preserved : goal.loop-steal_pass-preserved
loop-steal_pass-preserved g c =
    let row_is : c.args.row.items ≡ c.loop-steal_pass.yielded ++ c.in-Some.steal_pass ∷ c.next.new.self.rest.items = c.loop-steal_pass.invariant.rest ∙ ap (λ l. c.loop-steal_pass.yielded ++ l) c.in-Some.ensures.steps.0 in
    let within : c.loop-steal_pass.at < length c.loop-steal_pass.owns = seam_within c.args.row.items c.loop-steal_pass.yielded c.next.new.self.rest.items c.in-Some.steal_pass c.loop-steal_pass.owns c.args.owns.now c.loop-steal_pass.at (λ r. stealer_deque r.stealer) (λ o. tag o.deque) (λ t. t.0) row_is c.loop-steal_pass.invariant.at_is c.requires.row c.loop-steal_pass.invariant.tags in
    let was : parts (get_or c.loop-steal_pass.owns c.loop-steal_pass.at c.index-owns-at.result).deque ≡ c.args.have = c.loop-steal_pass.invariant.out c.loop-steal_pass.at c.index-owns-at.result (omega arith) within in
    let more = ap (λ (v : Account). v.parts) c.in_ok-absorb.ensures.view in
    let now : parts c.absorb.new.self.deque ≡ c.args.have + 1 = omega arith in
    let count = length_push c.loop-steal_pass.yielded c.in-Some.steal_pass in
    let at = c.loop-steal_pass.invariant.at_is in
    record {
      rest = row_is ∙ sym (append_assoc c.loop-steal_pass.yielded (c.in-Some.steal_pass ∷ []) c.next.new.self.rest.items);
      at_is = omega arith;
      tags = map_set c.loop-steal_pass.owns _ c.index-owns-at.result c.absorb.new.self (λ o. tag o.deque) (λ i. (c.absorb.ensures.same i, (c.in_ok-absorb.ensures.view i).put)) ∙ c.loop-steal_pass.invariant.tags;
      back = turn_left c.loop-steal_pass.owns _ c.absorb.new.self (λ o. parts o.deque ≡ c.args.have + 1) (λ o. parts o.deque ≡ c.args.have) within c.loop-steal_pass.invariant.back now;
      out = turn_right c.loop-steal_pass.owns _ c.absorb.new.self (λ o. parts o.deque ≡ c.args.have) c.loop-steal_pass.invariant.out;
      gave = all_set c.loop-steal_pass.owns _ c.absorb.new.self (λ o. AllGave g.K.Batch.jobs g.J.Job.gives g.K.Batch.told o.answers.items) c.absorb.ensures.gave c.loop-steal_pass.invariant.gave;
    }

pub returns-clause-parts : goal.returns-clause-parts
returns-clause-parts g c =
    let a = ap length c.loop-steal_pass.invariant.rest in
    let b = length-append c.loop-steal_pass.yielded c.loop-steal_pass.steal_pass-iterator.rest.items in
    let e : length c.args.row.items ≡ length c.args.owns.now = length_same c.args.row.items c.args.owns.now (λ r. stealer_deque r.stealer) (λ o. worker_deque o.deque) c.requires.row in
    let m = c.loop-steal_pass.steal_pass-iterator.rest.ok.0 in
    let none = c.in-None.ensures.steps.0 in
    let at = c.loop-steal_pass.invariant.at_is in
    let same = c.loop-steal_pass.auto.owns in
    λ k d within. c.loop-steal_pass.invariant.back k d (omega arith) (omega arith)
