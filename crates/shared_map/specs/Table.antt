-- Maps whose keys are the numbers from 0 on.
use Rattle.std.specs.Prelude.{ℕ, ◌+◌, List, [], ◌∷◌}

-- some rows, each with its number, where the first has the number k
abbrev pub numbered : {X : Type 0} → ℕ → List X → List (ℕ × X)
numbered k [] = []
numbered k (x ∷ xs) = (k, x) ∷ numbered (k + 1) xs

-- the entries of the map in which the number i has the row i
abbrev pub table : {X : Type 0} → List X → List (ℕ × X)
table xs = numbered 0 xs
