-- What a reader of lines gives.
use Rattle.std.specs.Prelude.{◌≡◌, ℕ, ◌+◌, ◌^◌, ◌<◌, ◌≤◌, List, [], ◌∷◌, ◌++◌, length, Option, All, false, ◌⊎◌}
use Rattle.std.specs.Io.KnownBytes.{Consumes, IsAtEnd}
use Rattle.std.specs.Str.Lines.{strip_carriage_return}
use Rattle.pan_io.specs.Ahead.{ahead}
use Rattle.pan_io.specs.Text.{is_line_end}
use Rattle.pan_io.specs.declared.taken.Stop.{Stop}
use Rattle.pan_io.specs.declared.taken.Stop.TheVariants.{Open, Ended, Faulted, Exceeded}
use Rattle.pan_io.specs.declared.taken.Taken.{Taken}
use Rattle.pan_io.specs.declared.taken.Taken.TheVariants.{Line, TooLong, End, ReadFault, Long}

-- a reader of lines: the bytes that it took from the source and has not used, how many it used,
-- the line that it shows, and what stopped it
pub record Reader : Type 0 where
  pub pending : List ℕ
  pub used : ℕ
  pub line : List ℕ
  pub stop : Stop

-- what is ahead of a reader over a source with these bytes left
abbrev pub before_it : Reader → Option (List ℕ) → Option (List ℕ)
before_it reader left = ahead reader.pending left

-- raw ends as a line: a byte 0x0A follows it, or it has a byte and the input ends behind it
abbrev pub EndsLine : Option (List ℕ) → Reader → List ℕ → List ℕ → Type 0
EndsLine left now raw end = ((end ≡ 10 ∷ []) × (now.stop ≡ Open))
    ⊎ ((end ≡ []) × (0 < length raw) × (now.stop ≡ Ended) × IsAtEnd (before_it now left))

-- the answer after raw and the line end behind it were used
abbrev pub Answers : Option (List ℕ) → Reader → List ℕ → List ℕ → Taken → Type 0
-- a line of at most 65,536 bytes, less one carriage return at its end
Answers left now raw end Line = EndsLine left now raw end × (now.line ≡ strip_carriage_return raw) × (length now.line ≤ 65536)
-- the length of a line of more bytes
Answers left now raw end (TooLong n) = EndsLine left now raw end × (n ≡ length (strip_carriage_return raw)) × (65536 < n) × (now.line ≡ [])
-- the end of the input, with no byte since the last line end
Answers left now raw end End = (raw ≡ []) × (end ≡ []) × (now.stop ≡ Ended) × IsAtEnd (before_it now left) × (now.line ≡ [])
-- a fault of the source, with every byte used that it gave
Answers left now raw end ReadFault = (end ≡ []) × (now.stop ≡ Faulted) × (now.pending ≡ []) × (now.line ≡ [])
-- all bytes were used that a session may use, and the source gave a further one
Answers left now raw end (Long n) = (end ≡ []) × (now.stop ≡ Exceeded) × (n ≡ 2 ^ 40) × (now.used ≡ 2 ^ 40) × (0 < length now.pending) × (now.line ≡ [])

-- a reader used raw, which has no line end, and the line end behind it, and gave this answer
pub record Takes (left left' : Option (List ℕ)) (old new : Reader) (taken : Taken) (raw end : List ℕ) : Type 0 where
  pub open_line : All (λ byte. is_line_end byte ≡ false) raw
  pub consumed : Consumes (before_it old left) (before_it new left') (raw ++ end)
  pub counted : new.used ≡ old.used + length (raw ++ end)
  pub answers : Answers left' new raw end taken

-- what a reader that has stopped answers
abbrev pub Repeats : Stop → Taken → Type 0
Repeats Open taken = ⊥
Repeats Ended taken = taken ≡ End
Repeats Faulted taken = taken ≡ ReadFault
Repeats Exceeded taken = taken ≡ Long (2 ^ 40)

-- how the line raw is answered
abbrev pub IsKind : Taken → List ℕ → Type 0
IsKind Line raw = length (strip_carriage_return raw) ≤ 65536
IsKind (TooLong n) raw = (n ≡ length (strip_carriage_return raw)) × (65536 < n)
IsKind End raw = ⊥
IsKind ReadFault raw = ⊥
IsKind (Long n) raw = ⊥
