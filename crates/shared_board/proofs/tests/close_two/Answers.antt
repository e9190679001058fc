use Rattle.std.proofs.Common.{◌≡◌, ℕ, zero, suc, ◌<◌, List, [], ◌∷◌, ◌++◌, Contains, sym, ap, ◌∙◌, subst, arith}
use Rattle.shared_board.specs.Boards.{BoardPassMeaning}
use Rattle.shared_board.specs.Closing.{numbers_of}
use Rattle.shared_board.proofs.tests.close_two.Goals as goal

-- of two passes, the second first
both_numbers : {E : Type 0} (first second : BoardPassMeaning E) → first.number ≡ 0 → second.number ≡ 1 → (n : ℕ) → n < 2 → Contains (numbers_of (second ∷ first ∷ [])) n
both_numbers first second is_zero is_one zero lt = (1, omega arith, is_zero)
both_numbers first second is_zero is_one (suc zero) lt = (0, omega arith, is_one)
both_numbers first second is_zero is_one (suc (suc n)) lt = absurd (omega (arith, lt))

pub close-tree-requires-clause-numbers : goal.close-tree-requires-clause-numbers
close-tree-requires-clause-numbers c = λ n lt.
    let all : c.push_reserved-2.new.self.items ≡ c.args.one ∷ c.args.zero ∷ [] = c.push_reserved-2.ensures.items ∙ ap (λ (l : List (BoardPassMeaning ℕ)). l ++ c.args.zero ∷ []) (c.push_reserved.ensures.items ∙ ap (λ (l : List (BoardPassMeaning ℕ)). l ++ c.args.one ∷ []) c.in_ok-passes.ensures.items) in
    let numbers = c.requires.numbers in
    subst (λ (l : List (BoardPassMeaning ℕ)). Contains (numbers_of l) n) (sym all) (both_numbers c.args.zero c.args.one numbers.1 numbers.2 n (subst (λ (count : ℕ). n < count) numbers.0 lt))
