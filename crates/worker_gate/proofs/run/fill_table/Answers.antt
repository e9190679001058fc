use Rattle.std.proofs.Common.{◌≡◌, ◌++◌, ◌∷◌, [], ap, sym, ◌∙◌, append_assoc, map, get_or}
use Rattle.std.specs.List.{Contains}
use Rattle.worker_gate.specs.Results.{AllGave}
use Rattle.worker_gate.specs.Rows.{parts, put_of}
use Rattle.worker_gate.proofs.Lists.{all_seam, ended, kept}
use Rattle.worker_gate.proofs.Cells.{full_more}
use Rattle.worker_gate.proofs.run.fill_table.Goals as goal

pub finish_into-requires-clause-whole : goal.finish_into-requires-clause-whole
finish_into-requires-clause-whole g c κs fits =
    let row_is : c.args.owns.items ≡ c.loop-own.yielded ++ c.in-Some.own ∷ c.next.new.self.rest.items = c.loop-own.invariant.left ∙ ap (λ l. c.loop-own.yielded ++ l) c.in-Some.ensures.steps.0 in
    all_seam c.args.owns.items c.loop-own.yielded c.next.new.self.rest.items c.in-Some.own (λ o. parts o.deque ≡ 1024) row_is c.requires.whole

pub finish_into-requires-clause-gave : goal.finish_into-requires-clause-gave
finish_into-requires-clause-gave g c κs fits =
    let row_is : c.args.owns.items ≡ c.loop-own.yielded ++ c.in-Some.own ∷ c.next.new.self.rest.items = c.loop-own.invariant.left ∙ ap (λ l. c.loop-own.yielded ++ l) c.in-Some.ensures.steps.0 in
    all_seam c.args.owns.items c.loop-own.yielded c.next.new.self.rest.items c.in-Some.own (λ o. AllGave g.K.Batch.jobs g.J.Job.gives g.K.Batch.told o.answers.items) row_is c.requires.gave

pub loop-own-preserved : goal.loop-own-preserved
loop-own-preserved g c =
    let row_is : c.args.owns.items ≡ c.loop-own.yielded ++ c.in-Some.own ∷ c.next.new.self.rest.items = c.loop-own.invariant.left ∙ ap (λ l. c.loop-own.yielded ++ l) c.in-Some.ensures.steps.0 in
    record {
      left = row_is ∙ sym (append_assoc c.loop-own.yielded (c.in-Some.own ∷ []) c.next.new.self.rest.items);
      right = c.in_ok-finish_into.ensures.right;
      full = full_more c.loop-own.yielded c.in-Some.own (λ o. put_of o.deque) c.loop-own.table c.finish_into.new.table c.loop-own.invariant.full c.in_ok-finish_into.ensures.kept c.in_ok-finish_into.ensures.written;
    }

pub returns-clause-full : goal.returns-clause-full
returns-clause-full g c = λ k p within there.
    let all : c.args.owns.items ≡ c.loop-own.yielded = ended c.args.owns.items c.loop-own.yielded c.loop-own.own-iterator.rest.items c.loop-own.invariant.left (sym c.loop-own.own-iterator.rest.ok.0 ∙ c.in-None.ensures.steps.0) in
    c.loop-own.invariant.full k p (rw (← all) within) (kept c.args.owns.items c.loop-own.yielded (λ l. Contains (get_or (map (λ o. put_of o.deque) l) k []) p) all there)
