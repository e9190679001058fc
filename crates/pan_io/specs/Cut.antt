-- How a line comes to its end.
use Rattle.std.specs.Prelude.{◌≡◌, ℕ, ◌+◌, ◌^◌, ◌<◌, List, [], ◌∷◌, ◌++◌, length, Option, All, false}
use Rattle.std.specs.Io.KnownBytes.{Consumes, IsAtEnd}
use Rattle.pan_io.specs.Ahead.{ahead}
use Rattle.pan_io.specs.Text.{is_line_end}
use Rattle.pan_io.specs.Waiting.{Waiting}
use Rattle.pan_io.specs.declared.cut.Cut.{Cut}
use Rattle.pan_io.specs.declared.cut.Cut.TheVariants.{Whole, Last, Fault, Long}

-- the byte at which the line was cut
abbrev pub end_of : Cut → List ℕ
end_of Whole = 10 ∷ []
end_of Last = []
end_of Fault = []
end_of Long = []

-- what is known where the line was cut
abbrev pub EndsAs : Option (List ℕ) → Waiting → Cut → Type 0
EndsAs left now Whole = Unit {0}
EndsAs left now Last = (now.pending ≡ []) × IsAtEnd left
EndsAs left now Fault = now.pending ≡ []
EndsAs left now Long = (now.used ≡ 2 ^ 40) × (0 < length now.pending)

-- raw has no line end; it was used, and then the byte at which it was cut
pub record Cuts (left left' : Option (List ℕ)) (old new : Waiting) (cut : Cut) (raw : List ℕ) : Type 0 where
  pub open_line : All (λ byte. is_line_end byte ≡ false) raw
  pub consumed : Consumes (ahead old.pending left) (ahead new.pending left') (raw ++ end_of cut)
  pub counted : new.used ≡ old.used + length (raw ++ end_of cut)
  pub ends : EndsAs left' new cut
