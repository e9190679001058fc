-- A list whose things are read one after another.
use Rattle.std.proofs.Common.{◌≡◌, ℕ, ◌+◌, ◌<◌, List, [], ◌∷◌, ◌++◌, length, drop, get_or, Option, Some, None, option_map, option_and_then, refl, sym, ◌∙◌, ap, append_assoc, ◌≤◌}
use Rattle.std.proofs.lemmas.List.{drop_more, drop_all, append-nil}
use Rattle.repl_json.specs.Field.{each}

module _ {A B : Type 0} (reads : A → Option B) where
  -- what was read, and then the rest
  abbrev pub reads_on : List B → List A → Option (List B)
  reads_on got rest = option_map (λ bs. got ++ bs) (each reads rest)

  grouped : (got : List B) (b : B) (rest : Option (List B)) → option_map (λ bs. got ++ bs) (option_map (λ bs. b ∷ bs) rest) ≡ option_map (λ bs. (got ++ b ∷ []) ++ bs) rest
  grouped got b None = refl
  grouped got b (Some bs) = ap Some (sym (append_assoc got (b ∷ []) bs))

  -- one more
  pub reads_one : (got : List B) (xs : List A) (i : ℕ) (d : A) (b : B) → i < length xs → reads (get_or xs i d) ≡ Some b → reads_on got (drop i xs) ≡ reads_on (got ++ b ∷ []) (drop (i + 1) xs)
  reads_one got xs i d b within read =
      ap (reads_on got) (drop_more xs i d within)
      ∙ ap (λ o. option_map (λ bs. got ++ bs) (option_and_then (λ c. option_map (λ bs. c ∷ bs) (each reads (drop (i + 1) xs))) o)) read
      ∙ grouped got b (each reads (drop (i + 1) xs))

  -- one that is refused
  pub reads_none : (got : List B) (xs : List A) (i : ℕ) (d : A) → i < length xs → reads (get_or xs i d) ≡ None → reads_on got (drop i xs) ≡ None
  reads_none got xs i d within read =
      ap (reads_on got) (drop_more xs i d within)
      ∙ ap (λ o. option_map (λ bs. got ++ bs) (option_and_then (λ c. option_map (λ bs. c ∷ bs) (each reads (drop (i + 1) xs))) o)) read

  -- none yet
  pub reads_start : (xs : List A) → reads_on [] xs ≡ each reads xs
  reads_start xs = same (each reads xs)
    where
      same : (o : Option (List B)) → option_map (λ bs. [] ++ bs) o ≡ o
      same None = refl
      same (Some bs) = refl

  -- all of them
  pub reads_all : (got : List B) (xs : List A) (i : ℕ) → length xs ≤ i → reads_on got (drop i xs) ≡ Some got
  reads_all got xs i past = ap (reads_on got) (drop_all i xs past) ∙ ap Some (append-nil got)
