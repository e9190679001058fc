use Rattle.std.proofs.Common.{◌≡◌, map, sym, ap, length, length-append, arith}
use Rattle.std.proofs.lemmas.List.{length-map}
use Rattle.worker_gate.proofs.Lists.{ended}
use Rattle.worker_gate.proofs.seats.seats_of.Goals as goal

pub returns-clause-rows : goal.returns-clause-rows
returns-clause-rows g c =
    let a = ap length c.loop-own.invariant.left in
    let b = length-append c.loop-own.yielded c.loop-own.own-iterator.rest.items in
    let d = ap length c.loop-own.invariant.owns in
    let e = length-map c.loop-own.seats.items (λ s. s.own) in
    let f = length-map c.loop-own.seats.items (λ s. s.row) in
    let h = ap length c.loop-own.invariant.rows in
    let i = length-append (map (λ s. s.row) c.loop-own.seats.items) c.loop-own.rest.rest.items in
    let none = c.in-None.ensures.steps.0 in
    let ok = c.loop-own.own-iterator.rest.ok.0 in
    let zero : length c.loop-own.rest.rest.items ≡ 0 = omega (arith, a, b, d, e, f, h, i, none, ok, c.requires) in
    sym (ended c.args.rows.items (map (λ s. s.row) c.loop-own.seats.items) c.loop-own.rest.rest.items c.loop-own.invariant.rows zero)
