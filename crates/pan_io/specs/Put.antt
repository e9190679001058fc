-- What a sink has taken of a piece.
use Rattle.std.specs.Prelude.{◌≡◌, ℕ, List, ◌++◌, Option}
use Rattle.std.specs.Io.KnownBytes.{Appends}

-- the sink took a prefix of the piece, which may be all of it or none
abbrev pub AppendsPrefix : Option (List ℕ) → Option (List ℕ) → List ℕ → Type 0
AppendsPrefix old new piece = (prefix : List ℕ) × (rest : List ℕ) × (piece ≡ prefix ++ rest) × Appends old new prefix
