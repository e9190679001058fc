use Rattle.std.proofs.Common.{rules, ◌≡◌, ◌<◌, ◌∷◌, [], ℕ, ap, ◌∙◌, refl, nat_lt}
use Rattle.std.specs.Prelude.{IsTrue, ◌↔◌}
use Rattle.std.specs.Fn.{FnOnceReturnsAtMut}
use Rattle.atomic_table.specs.Table.{rest}
use Rattle.turn_lock.proofs.turning.call_on_value.Goals as goal

tested : (a b m n : ℕ) → a ≡ m → b ≡ n → IsTrue (nat_lt a b) ↔ (m < n)
tested a b m n e f = rw (e, f) (search rules)

pub returns-clause-called : goal.returns-clause-called
returns-clause-called g c =
    let t = c.requires.slot in
    let x = c.slot_mut-value.result.now in
    let y = c.f-answer.new.arg2 in
    let none_left : rest c.args.seat.now.me.1 ≡ [] = ap rest t.1 in
    let gave : FnOnceReturnsAtMut g.F.FnOnce c.args.f x c.f-answer.result y = record { shown = _; shows = refl; left = _; met = c.f-answer.ensures; leaves = refl } in
    (x, y, c.slot_mut-value.ensures.value ∙ ap (λ l. (0, x) ∷ l) none_left, ap (λ l. (0, y) ∷ l) none_left, gave, tested _ _ _ _ c.length-before.ensures c.length-after.ensures)
