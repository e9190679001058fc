-- Variables as arguments, one by one.
use Rattle.std.proofs.Common.{◌≡◌, ℕ, zero, suc, ◌-◌, ◌<◌, ◌≤◌, sym, ap, ap₂, ◌∙◌, arith}
use Rattle.ld_trees.specs.Term.{Var, ◌▹◌}
use Rattle.unification.specs.Patterns.{variables_from}

pub one_more : (left count : ℕ) → 0 < left → left ≤ count → variables_from left (count - left) ▹ Var (left - 1) ≡ variables_from (left - 1) (count - (left - 1))
one_more zero count l w = absurd (omega arith)
one_more (suc i) count l w =
    let here : suc i - 1 ≡ i = omega arith in
    let more : count - (suc i - 1) ≡ suc (count - suc i) = omega arith in
    ap (λ k. variables_from (suc i) (count - suc i) ▹ Var k) here ∙ sym (ap₂ variables_from here more)
