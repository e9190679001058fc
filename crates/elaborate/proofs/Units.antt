-- Units of a node, one by one; and the variables of a context.
use Rattle.std.proofs.Common.{◌≡◌, ℕ, zero, suc, ◌-◌, ◌<◌, ◌≤◌, sym, ap, ap₂, ◌∙◌, arith}
use Rattle.ld_trees.specs.Term.{Var, ◌▹◌}
use Rattle.unification.specs.Patterns.{variables_from}
use Rattle.unification.specs.Steps.{Gave, OutOfFuel}
use Rattle.elaborate.specs.Steps.{paid}

pub one_spent : (k n i j : ℕ) → 0 < k → 0 < n → i ≡ k - 1 → j ≡ n - 1 → paid k n ≡ paid i j
one_spent zero n i j l m p q = absurd (omega arith)
one_spent (suc k) zero i j l m p q = absurd (omega arith)
one_spent (suc k) (suc n) i j l m p q = let a : k ≡ i = omega arith in let b : n ≡ j = omega arith in ap₂ paid a b

pub none_to_spend : (k n : ℕ) → 0 < k → n ≡ 0 → paid k n ≡ OutOfFuel
none_to_spend zero n l e = absurd (omega arith)
none_to_spend (suc k) n l e = ap (paid (suc k)) e

pub all_spent : (k n : ℕ) → k ≡ 0 → paid k n ≡ Gave tt n
all_spent k n e = ap (λ k. paid k n) e

pub one_more_variable : (left count : ℕ) → 0 < left → left ≤ count → variables_from left (count - left) ▹ Var (left - 1) ≡ variables_from (left - 1) (count - (left - 1))
one_more_variable zero count l w = absurd (omega arith)
one_more_variable (suc i) count l w =
    let here : suc i - 1 ≡ i = omega arith in
    let more : count - (suc i - 1) ≡ suc (count - suc i) = omega arith in
    ap (λ k. variables_from (suc i) (count - suc i) ▹ Var k) here ∙ sym (ap₂ variables_from here more)
