-- Lists that weigh the same hold the same positions.
use Rattle.std.proofs.Common.{◌≡◌, ◌≢◌, ℕ, zero, suc, ◌<◌, ◌≤◌, ◌⊎◌, inl, inr, ⊎_elim, eqb, eq-eqb, ne_eqb, cond, List, [], ◌∷◌, length, get_or, ap, arith}
use Rattle.std.specs.List.{Contains}
use Rattle.std.proofs.lemmas.Bool.{cases_lt}
use Rattle.worker_gate.specs.Accounts.{weigh}

abbrev one : ℕ → ℕ → ℕ
one p x = cond (eqb x p) 1 0

in_weighs : (p : ℕ) (xs : List ℕ) (k : ℕ) → k < length xs → get_or xs k p ≡ p → 0 < weigh (one p) xs
in_weighs p [] k within e = absurd (omega arith)
in_weighs p (x ∷ xs) zero within e = let w : one p x ≡ 1 = ap (λ b. cond b 1 0) (eq-eqb x p e) in omega arith
in_weighs p (x ∷ xs) (suc k) within e = let h = in_weighs p xs k (omega arith) e in omega arith

same_or_not : (x p : ℕ) → (x ≡ p) ⊎ (x ≢ p)
same_or_not x p = ⊎_elim (λ (a : x < p). inr (λ e. omega arith)) (λ (a : p ≤ x). ⊎_elim (λ (b : p < x). inr (λ e. omega arith)) (λ (b : x ≤ p). inl (omega arith)) (cases_lt p x)) (cases_lt x p)

weighs_in : (p : ℕ) (xs : List ℕ) → 0 < weigh (one p) xs → Contains xs p
weighs_in p [] h = absurd (omega arith)
weighs_in p (x ∷ xs) h =
    ⊎_elim (λ (e : x ≡ p). let within : 0 < length (x ∷ xs) = omega arith in (0, within, e))
    (λ (n : x ≢ p).
    let w : one p x ≡ 0 = ap (λ b. cond b 1 0) (ne_eqb x p n) in
    let r = weighs_in p xs (omega arith) in let within : suc r.0 < length (x ∷ xs) = (let a = r.1 in omega arith) in (suc r.0, within, r.2)) (same_or_not x p)

pub covers : (put taken : List ℕ) → ((h : ℕ → ℕ) → weigh h put ≡ weigh h taken) → (p : ℕ) → Contains put p → Contains taken p
covers put taken same p there =
    let a = in_weighs p put there.0 there.1 there.2 in let e = same (one p) in weighs_in p taken (omega arith)
