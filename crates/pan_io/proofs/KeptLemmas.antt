-- A further run in the line that is being read.
use Rattle.std.proofs.Common.{◌≡◌, ℕ, ◌+◌, ◌-◌, ◌<◌, ◌≤◌, ◌⊎◌, inl, inr, List, [], ◌∷◌, ◌++◌, length, take, min, slice_index, refl, sym, ◌∙◌, ap, arith, length-append, append-nil}
use Rattle.std.proofs.lemmas.Bool.{cases_lt}
use Rattle.std.proofs.lemmas.List.{take_all, take-append-le, length-take, get_or-append_right}
use Rattle.std.proofs.Math.Seq.{take-append-add}
use Rattle.pan_io.specs.Kept.{Kept, Holds}

-- the first n of joined lists
take_joined : (n : ℕ) (xs ys : List ℕ) → take n (xs ++ ys) ≡ take n xs ++ take (n - length xs) ys
take_joined n xs ys = by_size (cases_lt (length xs) n)
  where
    by_size : (length xs < n) ⊎ (n ≤ length xs) → take n (xs ++ ys) ≡ take n xs ++ take (n - length xs) ys
    by_size (inl longer) =
        let all : n ≡ length xs + (n - length xs) = omega arith in
        ap (λ m. take m (xs ++ ys)) all ∙ take-append-add xs ys (n - length xs) ∙ ap (λ l. l ++ take (n - length xs) ys) (sym (take_all n xs (omega arith)))
    by_size (inr shorter) =
        let none : n - length xs ≡ 0 = omega arith in
        take-append-le n xs ys shorter ∙ sym (ap (λ m. take n xs ++ take m ys) none ∙ append-nil (take n xs))

-- as many as there are, or as there is room for
take_min : (n : ℕ) (xs : List ℕ) → take (min (length xs) n) xs ≡ take n xs
take_min n xs = by_size (cases_lt (length xs) n)
  where
    by_size : (length xs < n) ⊎ (n ≤ length xs) → take (min (length xs) n) xs ≡ take n xs
    by_size (inl less) = take_all (min (length xs) n) xs (omega arith) ∙ sym (take_all n xs (omega arith))
    by_size (inr more) =
        let e : min (length xs) n ≡ n = omega arith in
        ap (λ m. take m xs) e

pub held_run : (raw items run : List ℕ) (count last kept : ℕ) → 0 < length run → length items ≤ 65537
    → kept ≡ min (length run) (65537 - length items)
    → Holds (record { count = count; front = items; last = last }) raw
    → Holds (record { count = count + length run; front = items ++ take kept run; last = slice_index run (length run - 1) }) (raw ++ run)
held_run raw items run count last kept some room e held = record {
  counted = omega (arith, length-append raw run, held.counted);
  kept_front =
      let space : 65537 - length items ≡ 65537 - length raw = omega (arith, ap length held.kept_front, length-take 65537 raw) in
      ap (λ n. items ++ take n run) e ∙ ap (λ l. items ++ l) (take_min (65537 - length items) run)
      ∙ ap (λ n. items ++ take n run) space ∙ ap (λ l. l ++ take (65537 - length raw) run) held.kept_front
      ∙ sym (take_joined 65537 raw run);
  last_byte =
      let at : length (raw ++ run) - 1 ≡ length raw + (length run - 1) = omega (arith, length-append raw run) in
      let back : (length raw + (length run - 1)) - length raw ≡ length run - 1 = omega arith in
      sym (ap (slice_index (raw ++ run)) at ∙ get_or-append_right raw run (length raw) (length raw + (length run - 1)) 0 refl (omega arith) ∙ ap (slice_index run) back);
}

-- nothing was added
pub held_none : (kept : Kept) (raw run : List ℕ) → length run ≡ 0 → Holds kept raw → Holds kept (raw ++ run)
held_none kept raw [] none held = rw (append-nil raw) held
held_none kept raw (x ∷ xs) none held = absurd (omega arith)
