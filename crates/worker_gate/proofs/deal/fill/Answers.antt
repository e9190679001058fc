use Rattle.std.proofs.Common.{◌≡◌, suc, ◌+◌, ◌∷◌, ◌++◌, [], ap, sym, ◌∙◌, arith}
use Rattle.std.specs.List.{range_with_len}
use Rattle.worker_gate.specs.declared.account.Account.{Account}
use Rattle.worker_gate.proofs.Lists.{drop_get, drop_next}
use Rattle.worker_gate.proofs.Deals.{range_more}
use Rattle.worker_gate.proofs.deal.fill.Goals as goal

pub invariant_of-put : goal.invariant_of-put
invariant_of-put g c = record { placed = drop_get g.K.Batch.jobs c.loop.at c.in-Some.job c.next.new.self.rest.items (sym c.loop.invariant.rest ∙ c.in-Some.ensures.items) }

pub loop-preserved : goal.loop-preserved
loop-preserved g c =
    let at = c.loop.invariant.at_is in
    let view = c.in_ok-put-in-Some.ensures.put in
    let next : suc c.loop.counter ≡ c.loop.counter + 1 = omega arith in
    record {
      at_is = omega arith;
      rest = drop_next g.K.Batch.jobs c.loop.at c.in-Some.job c.next.new.self.rest.items (sym c.loop.invariant.rest ∙ c.in-Some.ensures.items);
      whole = ap (λ (v : Account). v.parts) view ∙ c.loop.invariant.whole;
      none = c.put.ensures.same.1 ∙ c.loop.invariant.none;
      put = ap (λ (v : Account). v.put) view ∙ ap (λ l. l ++ c.loop.at ∷ []) c.loop.invariant.put ∙ range_more c.args.first c.loop.counter c.loop.at (sym at) ∙ ap (range_with_len c.args.first) next;
    }
