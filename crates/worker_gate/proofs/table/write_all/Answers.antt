use Rattle.std.proofs.Common.{◌≡◌, ◌<◌, ◌++◌, ◌∷◌, [], ap, sym, ◌∙◌, append_assoc, length, arith}
use Rattle.worker_gate.specs.Results.{Gave, places}
use Rattle.std.specs.List.{Contains}
use Rattle.worker_gate.proofs.Lists.{all_seam, ended, kept}
use Rattle.worker_gate.proofs.Cells.{written_keep, written_more, right_set, gave_within}
use Rattle.worker_gate.proofs.table.write_all.Goals as goal

pub put_at-requires : goal.put_at-requires
put_at-requires g c =
    let row_is : c.args.answers.items ≡ c.loop-answer.yielded ++ c.in-Some.answer ∷ c.next.new.self.rest.items = c.loop-answer.invariant.rest ∙ ap (λ l. c.loop-answer.yielded ++ l) c.in-Some.ensures.steps.0 in
    let gave : Gave g.K.Batch.jobs g.J.Job.gives g.K.Batch.told c.in-Some.answer.at c.in-Some.answer.done = all_seam c.args.answers.items c.loop-answer.yielded c.next.new.self.rest.items c.in-Some.answer (λ a. Gave g.K.Batch.jobs g.J.Job.gives g.K.Batch.told a.at a.done) row_is c.requires.gave in
    let low = gave_within g.K.Batch.jobs g.J.Job.gives g.K.Batch.told c.in-Some.answer.at c.in-Some.answer.done gave in
    omega (arith, low, c.requires.len.0, c.loop-answer.auto.table)

pub loop-answer-preserved : goal.loop-answer-preserved
loop-answer-preserved g c =
    let row_is : c.args.answers.items ≡ c.loop-answer.yielded ++ c.in-Some.answer ∷ c.next.new.self.rest.items = c.loop-answer.invariant.rest ∙ ap (λ l. c.loop-answer.yielded ++ l) c.in-Some.ensures.steps.0 in
    let gave : Gave g.K.Batch.jobs g.J.Job.gives g.K.Batch.told c.in-Some.answer.at c.in-Some.answer.done = all_seam c.args.answers.items c.loop-answer.yielded c.next.new.self.rest.items c.in-Some.answer (λ a. Gave g.K.Batch.jobs g.J.Job.gives g.K.Batch.told a.at a.done) row_is c.requires.gave in
    let low = gave_within g.K.Batch.jobs g.J.Job.gives g.K.Batch.told c.in-Some.answer.at c.in-Some.answer.done gave in
    let within : c.in-Some.answer.at < length c.loop-answer.table = omega (arith, low, c.requires.len.0, c.loop-answer.auto.table) in
    record {
      rest = row_is ∙ sym (append_assoc c.loop-answer.yielded (c.in-Some.answer ∷ []) c.next.new.self.rest.items);
      right = rw c.put_at.ensures (right_set g.K.Batch.jobs g.J.Job.gives g.K.Batch.told c.loop-answer.table c.in-Some.answer.at c.in-Some.answer.done c.loop-answer.invariant.right gave);
      written = rw c.put_at.ensures (written_more c.loop-answer.table c.loop-answer.yielded c.in-Some.answer within c.loop-answer.invariant.written);
      kept = rw c.put_at.ensures (λ p w. written_keep c.loop-answer.table c.in-Some.answer.at p c.in-Some.answer.done (c.loop-answer.invariant.kept p w));
    }

pub returns-clause-written : goal.returns-clause-written
returns-clause-written g c = λ p there.
    let all : c.args.answers.items ≡ c.loop-answer.yielded = ended c.args.answers.items c.loop-answer.yielded c.loop-answer.answer-iterator.rest.items c.loop-answer.invariant.rest (sym c.loop-answer.answer-iterator.rest.ok.0 ∙ c.in-None.ensures.steps.0) in
    c.loop-answer.invariant.written p (kept c.args.answers.items c.loop-answer.yielded (λ l. Contains (places l) p) all there)
