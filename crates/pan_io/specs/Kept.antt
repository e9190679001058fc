-- The front of a line that is being read, and its length.
use Rattle.std.specs.Prelude.{◌≡◌, ℕ, ◌-◌, List, length, take, slice_index}

-- how many bytes came, the first of them, and the last one
pub record Kept : Type 0 where
  pub count : ℕ
  pub front : List ℕ
  pub last : ℕ

-- these are the bytes that came; 65,537 of them are kept, a longest line and a carriage return
pub record Holds (kept : Kept) (raw : List ℕ) : Type 0 where
  pub counted : kept.count ≡ length raw
  pub kept_front : kept.front ≡ take 65537 raw
  pub last_byte : kept.last ≡ slice_index raw (length raw - 1)
