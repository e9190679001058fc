use Rattle.std.proofs.Common.{◌≡◌, ◌<◌, ◌+◌, suc, ◌++◌, ◌∷◌, [], ap, sym, ◌∙◌, append_assoc, length, slice_get, Some, None, arith}
use Rattle.std.proofs.lemmas.List.{length_push}
use Rattle.worker_gate.specs.Results.{Gave}
use Rattle.worker_gate.proofs.Lists.{get_next, next_within}
use Rattle.worker_gate.proofs.Cells.{zip_next}
use Rattle.worker_gate.proofs.table.in_order.Goals as goal

pub loop-cell-preserved : goal.loop-cell-preserved
loop-cell-preserved g c =
    let row_is : c.args.table.items ≡ c.loop-cell.yielded ++ c.in-Some.cell ∷ c.next.new.self.rest.items = c.loop-cell.invariant.rest ∙ ap (λ l. c.loop-cell.yielded ++ l) c.in-Some.ensures.steps.0 in
    let cell_is : slice_get c.args.table.items (length c.loop-cell.yielded) ≡ Some (Some c.in-Some-cell.done) = get_next c.args.table.items c.loop-cell.yielded c.next.new.self.rest.items c.in-Some.cell row_is ∙ ap Some c.in-Some-cell.is in
    let gave : Gave g.K.Batch.jobs g.J.Job.gives g.K.Batch.told (length c.loop-cell.yielded) c.in-Some-cell.done = c.requires.right (length c.loop-cell.yielded) c.in-Some-cell.done cell_is in
    let count : length (c.loop-cell.yielded ++ c.in-Some.cell ∷ []) ≡ length c.loop-cell.yielded + 1 = length_push c.loop-cell.yielded c.in-Some.cell in
    let next : length (c.loop-cell.yielded ++ c.in-Some.cell ∷ []) ≡ suc (length c.loop-cell.yielded) = omega (arith, count) in
    record {
      rest = row_is ∙ sym (append_assoc c.loop-cell.yielded (c.in-Some.cell ∷ []) c.next.new.self.rest.items);
      done = rw c.in_ok-push-in-Some-cell.ensures.items (zip_next g.J.Job.gives g.K.Batch.jobs (length c.loop-cell.yielded) _ c.loop-cell.all.items gave.0 c.in-Some-cell.done next c.loop-cell.invariant.done gave.1 gave.2);
    }

pub unreachable-requires : goal.unreachable-requires
unreachable-requires g c =
    let row_is : c.args.table.items ≡ c.loop-cell.yielded ++ c.in-Some.cell ∷ c.next.new.self.rest.items = c.loop-cell.invariant.rest ∙ ap (λ l. c.loop-cell.yielded ++ l) c.in-Some.ensures.steps.0 in
    let cell_is : slice_get c.args.table.items (length c.loop-cell.yielded) ≡ Some None = get_next c.args.table.items c.loop-cell.yielded c.next.new.self.rest.items c.in-Some.cell row_is ∙ ap Some c.in-None-cell.is in
    let within = next_within c.args.table.items c.loop-cell.yielded c.next.new.self.rest.items c.in-Some.cell row_is in
    let low : length c.loop-cell.yielded < length g.K.Batch.jobs = omega (arith, within, c.requires.len) in
    let w = c.requires.full (length c.loop-cell.yielded) low in
    let clash = sym cell_is ∙ w.1 in cc

pub returns-clause-told : goal.returns-clause-told
returns-clause-told g c = λ p low. let w = c.requires.full p low in (c.requires.right p w.0 w.1).3
