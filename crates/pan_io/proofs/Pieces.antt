-- Bytes that go piece by piece.
use Rattle.std.proofs.Common.{◌≡◌, ℕ, ◌+◌, ◌-◌, List, [], ◌∷◌, ◌++◌, length, take, drop, Option, refl, sym, ◌∙◌, ap, arith, append_assoc, take-append-drop}
use Rattle.std.proofs.lemmas.List.{take_all, length-drop, drop-drop}
use Rattle.std.proofs.KnownBytes.{Appends-trans}
use Rattle.std.specs.Io.KnownBytes.{Appends}

-- a further piece behind the prefix that was taken
pub puts_more : (old mid new : Option (List ℕ)) (piece prefix rest : List ℕ) (n : ℕ) → piece ≡ prefix ++ rest
    → Appends old mid prefix → Appends mid new (take n rest)
    → (f : List ℕ) × (piece ≡ f ++ take (length rest - n) (drop n rest)) × Appends old new f
puts_more old mid new piece prefix rest n e first second =
    let all : take (length rest - n) (drop n rest) ≡ drop n rest = take_all _ _ (omega (arith, length-drop n rest)) in (
      prefix ++ take n rest,
      rw all (e ∙ ap (λ l. prefix ++ l) (sym (take-append-drop n rest)) ∙ sym (append_assoc prefix (take n rest) (drop n rest))),
      Appends-trans old mid new prefix (take n rest) first second,
    )

-- what was copied, and what is left
pub gives_piece : (xs into : List ℕ) (at n : ℕ) → take n into ≡ take n (drop at xs) → drop at xs ≡ take n into ++ drop (at + n) xs
gives_piece xs into at n copied =
    sym (take-append-drop n (drop at xs)) ∙ ap (λ l. l ++ drop n (drop at xs)) (sym copied) ∙ ap (λ l. take n into ++ l) (drop-drop n at xs)

-- nothing is left where nothing was copied from nothing
pub gives_none : (xs : List ℕ) (at n : ℕ) → length (drop at xs) ≡ 0 → drop (at + n) xs ≡ []
gives_none xs at n none = empty (drop (at + n) xs) (omega (arith, length-drop {A = ℕ}))
  where
    empty : (l : List ℕ) → length l ≡ 0 → l ≡ []
    empty [] e = refl
    empty (x ∷ l) e = absurd (omega arith)
