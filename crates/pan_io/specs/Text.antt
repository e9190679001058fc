-- The lines of bytes.
use Rattle.std.specs.Prelude.{ℕ, ◌==◌, List, [], ◌∷◌, length, if◌then◌else◌, Bool}
use Rattle.std.specs.List.{slice_split}
use Rattle.std.specs.Str.Lines.{strip_carriage_return}

-- the byte 0x0A ends a line
abbrev pub is_line_end : ℕ → Bool
is_line_end byte = byte == 10

-- what stands between line ends: there is always a last part, which may be empty
abbrev pub parts : List ℕ → List (List ℕ)
parts bytes = slice_split is_line_end bytes

-- each part but the last is a line, and the last one is a line where it is not empty;
-- one carriage return directly before a line's end is no part of the line
abbrev pub lines_of_parts : List (List ℕ) → List (List ℕ)
lines_of_parts [] = []
lines_of_parts (part ∷ []) = if length part == 0 then [] else strip_carriage_return part ∷ []
lines_of_parts (part ∷ next ∷ more) = strip_carriage_return part ∷ lines_of_parts (next ∷ more)

-- each part but the last, as a line
abbrev pub whole_of_parts : List (List ℕ) → List (List ℕ)
whole_of_parts [] = []
whole_of_parts (part ∷ []) = []
whole_of_parts (part ∷ next ∷ more) = strip_carriage_return part ∷ whole_of_parts (next ∷ more)

-- the lines of a whole input
unfoldable pub lines_of : List ℕ → List (List ℕ)
lines_of bytes = lines_of_parts (parts bytes)

-- the lines that are whole in the first bytes of an input: those whose line end is among them
unfoldable pub whole_lines_of : List ℕ → List (List ℕ)
whole_lines_of bytes = whole_of_parts (parts bytes)
