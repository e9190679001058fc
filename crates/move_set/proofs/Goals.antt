-- Open goals, one by one.
use Rattle.std.proofs.Common.{◌≡◌, ℕ, suc, ◌+◌, ◌<◌, Bool, List, [], ◌∷◌, ◌++◌, length, filter, take, slice_index, sym, ap, ◌∙◌, arith, append_assoc}
use Rattle.std.proofs.Math.Seq.{take-suc}
use Rattle.std.proofs.lemmas.List.Elements.{filter-append}

more_open : (p : ℕ → Bool) (xs : List ℕ) (i : ℕ) → i < length xs → filter p (take i xs) ++ filter p (slice_index xs i ∷ []) ≡ filter p (take (i + 1) xs)
more_open p xs i l =
    let s : suc i ≡ i + 1 = omega arith in
    sym (filter-append p (take i xs) (slice_index xs i ∷ [])) ∙ ap (filter p) (sym (take-suc xs i 0 l) ∙ ap (λ n. take n xs) s)

pub pushed : (p : ℕ → Bool) (before goals goals' xs : List ℕ) (i : ℕ) → i < length xs → goals ≡ before ++ filter p (take i xs) → goals' ≡ goals ++ filter p (slice_index xs i ∷ []) → goals' ≡ before ++ filter p (take (i + 1) xs)
pushed p before goals goals' xs i l e f =
    f ∙ ap (λ ys. ys ++ filter p (slice_index xs i ∷ [])) e ∙ append_assoc before (filter p (take i xs)) (filter p (slice_index xs i ∷ [])) ∙ ap (λ ys. before ++ ys) (more_open p xs i l)
