-- The bytes of a session that were taken from its source.
use Rattle.std.specs.Prelude.{◌≡◌, ℕ, ◌+◌, ◌^◌, ◌<◌, List, [], ◌∷◌, ◌++◌, length, Option, All, Bool, true, false}
use Rattle.std.specs.Io.KnownBytes.{IsAtEnd}
use Rattle.pan_io.specs.Text.{is_line_end}
use Rattle.pan_io.specs.declared.input.Ready.{Ready}
use Rattle.pan_io.specs.declared.input.Ready.TheVariants.{Bytes, End, Fault, Long}

-- the bytes that wait to be used, and how many were used before them
pub record Waiting : Type 0 where
  pub pending : List ℕ
  pub used : ℕ

-- what there is to read on: bytes, nothing at the end of the input or after a fault, or bytes beyond the limit
abbrev pub IsReady : Option (List ℕ) → Waiting → Ready → Type 0
IsReady left now Bytes = (0 < length now.pending) × (now.used < 2 ^ 40)
IsReady left now End = (now.pending ≡ []) × IsAtEnd left
IsReady left now Fault = now.pending ≡ []
IsReady left now Long = (now.used ≡ 2 ^ 40) × (0 < length now.pending)

-- the line end after a run, where one was found
abbrev pub line_end : Bool → List ℕ
line_end true = 10 ∷ []
line_end false = []

-- a run of bytes without a line end was used, and the line end behind it where one was found
pub record UsesRun (old new : Waiting) (found : Bool) (run : List ℕ) : Type 0 where
  pub open_line : All (λ byte. is_line_end byte ≡ false) run
  pub used_bytes : old.pending ≡ (run ++ line_end found) ++ new.pending
  pub counted : new.used ≡ old.used + length (run ++ line_end found)
  pub some : 0 < length (run ++ line_end found)
