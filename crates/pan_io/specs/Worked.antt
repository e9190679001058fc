-- Worked inputs and their lines, computed by the definitions.
use Rattle.std.specs.Prelude.{◌≡◌, ℕ, List, [], ◌∷◌, codes}
use Rattle.pan_io.specs.Text.{lines_of, whole_lines_of}

-- an input, its lines, and those that are whole if more may follow
abbrev pub HasLines : List ℕ → List (List ℕ) → List (List ℕ) → Type 0
HasLines input lines whole = (lines_of input ≡ lines) × (whole_lines_of input ≡ whole)

abbrev pub WorkedLines : Type 0
WorkedLines =
    -- nothing, and a line end alone
    HasLines [] [] []
    × HasLines (10 ∷ []) ([] ∷ []) ([] ∷ [])
    -- a last line without its end
    × HasLines (codes "ab") (codes "ab" ∷ []) []
    -- "ab", carriage return, line end, "cd", line end
    × HasLines (97 ∷ 98 ∷ 13 ∷ 10 ∷ 99 ∷ 100 ∷ 10 ∷ []) (codes "ab" ∷ codes "cd" ∷ []) (codes "ab" ∷ codes "cd" ∷ [])
    -- a carriage return at the end of the input, behind a byte and alone
    × HasLines (97 ∷ 13 ∷ []) (codes "a" ∷ []) []
    × HasLines (13 ∷ []) ([] ∷ []) []
    -- one carriage return is dropped before the end, and none elsewhere
    × HasLines (13 ∷ 97 ∷ 13 ∷ 13 ∷ 10 ∷ 10 ∷ []) ((13 ∷ 97 ∷ 13 ∷ []) ∷ [] ∷ []) ((13 ∷ 97 ∷ 13 ∷ []) ∷ [] ∷ [])
