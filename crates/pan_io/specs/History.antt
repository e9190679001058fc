-- What a reader of lines has gone through since its session began.
use Rattle.std.specs.Prelude.{◌≡◌, ℕ, ◌^◌, ◌<◌, ◌≤◌, ◌⊎◌, List, [], ◌∷◌, ◌++◌, length, Option}
use Rattle.std.specs.Io.KnownBytes.{Consumes, IsAtEnd}
use Rattle.pan_io.specs.Text.{lines_of, whole_lines_of}
use Rattle.pan_io.specs.Reader.{Reader, before_it}
use Rattle.pan_io.specs.declared.taken.Stop.{Stop}
use Rattle.pan_io.specs.declared.taken.Stop.TheVariants.{Open, Ended, Faulted, Exceeded}
use Rattle.pan_io.specs.declared.taken.Taken.{Taken}
use Rattle.pan_io.specs.declared.taken.Taken.TheVariants.{Line, TooLong, End, ReadFault, Long}

-- no line is open at the end of these bytes: there is no byte, or the last one is a line end
abbrev pub IsWhole : List ℕ → Type 0
IsWhole seen = (seen ≡ []) ⊎ ((front : List ℕ) × (seen ≡ front ++ 10 ∷ []))

-- what follows such bytes has its own lines
abbrev pub LinesBehindWhole : Type 0
LinesBehindWhole = (seen more : List ℕ) → IsWhole seen
    → (lines_of (seen ++ more) ≡ lines_of seen ++ lines_of more)
    × (whole_lines_of (seen ++ more) ≡ lines_of seen ++ whole_lines_of more)

-- which lines were given: all of the bytes used, or after a fault or at the limit those that were whole in them
abbrev pub Gave : Stop → Option (List ℕ) → Reader → List ℕ → List (List ℕ) → Type 0
Gave Open left reader seen lines = (lines ≡ lines_of seen) × IsWhole seen
Gave Ended left reader seen lines = (lines ≡ lines_of seen) × IsAtEnd (before_it reader left)
Gave Faulted left reader seen lines = (lines ≡ whole_lines_of seen) × (reader.pending ≡ [])
Gave Exceeded left reader seen lines = (lines ≡ whole_lines_of seen) × (reader.used ≡ 2 ^ 40) × (0 < length reader.pending)

-- start is what was ahead when the session began, left what the source has left now,
-- seen the bytes that the reader used since, and lines the lines that it gave
pub record History (start left : Option (List ℕ)) (reader : Reader) (seen : List ℕ) (lines : List (List ℕ)) : Type 0 where
  pub consumed : Consumes start (before_it reader left) seen
  pub counted : reader.used ≡ length seen
  pub gave : Gave reader.stop left reader seen lines

-- the history after a further answer
abbrev pub Continues : Option (List ℕ) → Option (List ℕ) → Reader → Reader → List (List ℕ) → Taken → Type 0
Continues start left old new lines Line = (seen : List ℕ) × History start left new seen (lines ++ new.line ∷ [])
    × (length new.line ≤ 65536) × (old.used < new.used) × ((new.stop ≡ Open) ⊎ (new.stop ≡ Ended))
Continues start left old new lines (TooLong n) = (seen : List ℕ) × (line : List ℕ) × History start left new seen (lines ++ line ∷ [])
    × (length line ≡ n) × (65536 < n) × (old.used < new.used) × ((new.stop ≡ Open) ⊎ (new.stop ≡ Ended))
Continues start left old new lines End = (seen : List ℕ) × History start left new seen lines × (new.stop ≡ Ended)
Continues start left old new lines ReadFault = (seen : List ℕ) × History start left new seen lines × (new.stop ≡ Faulted)
Continues start left old new lines (Long n) = (seen : List ℕ) × History start left new seen lines × (new.stop ≡ Exceeded) × (n ≡ 2 ^ 40)
