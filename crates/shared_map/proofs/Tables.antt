-- Maps whose keys are the numbers from 0 on.
use Rattle.std.proofs.Common.{◌≡◌, ℕ, ◌+◌, ◌<◌, List, [], ◌∷◌, ◌++◌, length, refl, ap, ◌∙◌, arith, take, drop, Some, zero, suc, cond}
use Rattle.std.specs.Prelude.{slice_get}
use Rattle.std.proofs.lemmas.Bool.Decides.{nat_tests}
use Rattle.std.specs.FinMap.{find, put}
use Rattle.std.specs.FinMap.Entries.{by_order}
use Rattle.std.specs.Ordering.{nat_cmp, is_eq}
use Rattle.std.specs.declared.cmp.Ordering.TheVariants.{Equal, Greater}
use Rattle.shared_map.specs.Table.{numbered}

cmp_same : (a b : ℕ) → a ≡ b → nat_cmp a b ≡ Equal
cmp_same a b e = grind (arith, nat_tests)

cmp_more : (a b : ℕ) → b < a → nat_cmp a b ≡ Greater
cmp_more a b l = grind (arith, nat_tests)

pub length-numbered : {X : Type 0} (k : ℕ) (xs : List X) → length (numbered k xs) ≡ length xs
length-numbered k [] = refl
length-numbered k (x ∷ xs) = ap suc (length-numbered (k + 1) xs)

pub find-numbered : {X : Type 0} (k i q : ℕ) (xs : List X) → q ≡ k + i → find nat_cmp q (numbered k xs) ≡ slice_get xs i
find-numbered k i q [] e = refl
find-numbered k zero q (x ∷ xs) e = ap (λ r. cond (is_eq r) (Some x) (find nat_cmp q (numbered (k + 1) xs))) (cmp_same q k (omega arith))
find-numbered k (suc i) q (x ∷ xs) e = ap (λ r. cond (is_eq r) (Some x) (find nat_cmp q (numbered (k + 1) xs))) (cmp_more q k (omega arith)) ∙ find-numbered (k + 1) i q xs (omega arith)

pub put_next : {X : Type 0} (k q : ℕ) (y : X) (xs : List X) → q ≡ k + length xs → put nat_cmp q y (numbered k xs) ≡ numbered k (xs ++ y ∷ [])
put_next k q y [] e = let s : q ≡ k = omega arith in rw s refl
put_next k q y (x ∷ xs) e =
    ap (λ r. by_order r ((q, y) ∷ (k, x) ∷ numbered (k + 1) xs) ((k, y) ∷ numbered (k + 1) xs) ((k, x) ∷ put nat_cmp q y (numbered (k + 1) xs))) (cmp_more q k (omega arith))
    ∙ ap (λ l. (k, x) ∷ l) (put_next (k + 1) q y xs (omega arith))

pub put_row : {X : Type 0} (k i q : ℕ) (y : X) (xs : List X) → q ≡ k + i → i < length xs → put nat_cmp q y (numbered k xs) ≡ numbered k (take i xs ++ y ∷ drop (i + 1) xs)
put_row k i q y [] e l = absurd (omega arith)
put_row k zero q y (x ∷ xs) e l =
    ap (λ r. by_order r ((q, y) ∷ (k, x) ∷ numbered (k + 1) xs) ((k, y) ∷ numbered (k + 1) xs) ((k, x) ∷ put nat_cmp q y (numbered (k + 1) xs))) (cmp_same q k (omega arith))
put_row k (suc i) q y (x ∷ xs) e l =
    let n : suc (i + 1) ≡ suc i + 1 = omega arith in
    ap (λ r. by_order r ((q, y) ∷ (k, x) ∷ numbered (k + 1) xs) ((k, y) ∷ numbered (k + 1) xs) ((k, x) ∷ put nat_cmp q y (numbered (k + 1) xs))) (cmp_more q k (omega arith))
    ∙ ap (λ l. (k, x) ∷ l) (put_row (k + 1) i q y xs (omega arith) (omega arith))
    ∙ ap (λ m. numbered k (x ∷ (take i xs ++ y ∷ drop m (x ∷ xs)))) n
