-- Bytes that wait in a buffer in front of those that a source has left.
use Rattle.std.specs.Prelude.{List, ℕ, Option}
use Rattle.std.specs.Io.KnownBytes.{prepend_known}

-- what is ahead: the bytes in the buffer, and then those of the source, where it tells them
abbrev pub ahead : List ℕ → Option (List ℕ) → Option (List ℕ)
ahead pending left = prepend_known pending left
