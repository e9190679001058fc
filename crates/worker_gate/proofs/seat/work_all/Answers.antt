use Rattle.std.proofs.Common.{rules, ◌<◌, ◌≤◌, map, sym, get_or, length, arith}
use Rattle.std.specs.List.{All}
use Rattle.crossbeam_deque.specs.Handles.{stealer_deque}
use Rattle.worker_gate.specs.Results.{AllGave}
use Rattle.worker_gate.specs.Rows.{tag, parts}
use Rattle.worker_gate.proofs.Lists.{map_each, moved, kept}
use Rattle.worker_gate.proofs.seat.work_all.Goals as goal

pub returns-clause-tags : goal.returns-clause-tags
returns-clause-tags g c = map_each c.args.seats.now c.for_each_mut.new.s (λ s. tag s.own.deque) (omega (arith, c.for_each_mut.auto.s))
    (λ i d within. let r = (c.for_each_mut.ensures i d within).1 in moved (get_or c.args.seats.now i d) r.argument.now r.after_call.now (get_or c.for_each_mut.new.s i d) (λ s. tag s.own.deque) r.left r.call.0 r.argument_is)

pub returns-clause-parts : goal.returns-clause-parts
returns-clause-parts g c = map_each c.args.seats.now c.for_each_mut.new.s (λ s. parts s.own.deque) (omega (arith, c.for_each_mut.auto.s))
    (λ i d within. let r = (c.for_each_mut.ensures i d within).1 in moved (get_or c.args.seats.now i d) r.argument.now r.after_call.now (get_or c.for_each_mut.new.s i d) (λ s. parts s.own.deque) r.left r.call.1 r.argument_is)

pub returns-clause-rows : goal.returns-clause-rows
returns-clause-rows g c = map_each c.args.seats.now c.for_each_mut.new.s (λ s. map (λ r. stealer_deque r.stealer) s.row.items) (omega (arith, c.for_each_mut.auto.s))
    (λ i d within. let r = (c.for_each_mut.ensures i d within).1 in moved (get_or c.args.seats.now i d) r.argument.now r.after_call.now (get_or c.for_each_mut.new.s i d) (λ s. map (λ r. stealer_deque r.stealer) s.row.items) r.left r.call.2 r.argument_is)

pub returns-clause-gave : goal.returns-clause-gave
returns-clause-gave g c = λ i d within.
    let old : i < length c.args.seats.now = omega (arith, c.for_each_mut.auto.s) in
    let r = (c.for_each_mut.ensures i d old).1 in kept r.after_call.now (get_or c.for_each_mut.new.s i d) (λ s. AllGave g.K.Batch.jobs g.J.Job.gives g.K.Batch.told s.own.answers.items) r.left r.call.3

pub returns-clause-row_gave : goal.returns-clause-row_gave
returns-clause-row_gave g c = λ i d within.
    let old : i < length c.args.seats.now = omega (arith, c.for_each_mut.auto.s) in
    let r = (c.for_each_mut.ensures i d old).1 in kept r.after_call.now (get_or c.for_each_mut.new.s i d) (λ s. All (λ r. AllGave g.K.Batch.jobs g.J.Job.gives g.K.Batch.told r.answers.items) s.row.items) r.left r.call.4

pub for_each_mut-requires-clause-accepts : goal.for_each_mut-requires-clause-accepts
for_each_mut-requires-clause-accepts g c κs fits = λ i p within is.
    let few = c.requires.few.1 in (
      (
        kept (get_or c.args.seats.now i p.now) p.now (λ s. length s.row.items ≤ 64) (sym is) (c.requires.rows i p.now within),
        omega arith,
        kept (get_or c.args.seats.now i p.now) p.now (λ s. 0 < parts s.own.deque) (sym is) (c.requires.part i p.now within),
        c.requires.told,
        kept (get_or c.args.seats.now i p.now) p.now (λ s. AllGave g.K.Batch.jobs g.J.Job.gives g.K.Batch.told s.own.answers.items) (sym is) (c.requires.gave i p.now within),
        kept (get_or c.args.seats.now i p.now) p.now (λ s. All (λ r. AllGave g.K.Batch.jobs g.J.Job.gives g.K.Batch.told r.answers.items) s.row.items) (sym is) (c.requires.row_gave i p.now within),
      ),
      search rules,
    )
