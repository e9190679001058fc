-- Where a binary search for a key ends.
use Rattle.std.specs.Prelude.{◌≡◌, ◌≢◌, ℕ, ◌<◌, ◌≤◌, ◌+◌, List, [], ◌∷◌, length, slice_index_or}
use Rattle.std.specs.declared.cmp.Ordering.{Ordering}
use Rattle.std.specs.declared.cmp.Ordering.TheVariants.{Less, Equal}

-- how a key stands to the first key of a block
abbrev pub cmp_first : {K X : Type 0} → (K → K → Ordering) → K → List (K × X) → Ordering
cmp_first R q [] = Equal
cmp_first R q (e ∷ es) = R q e.0

module _ {X : Type 0} (order : X → Ordering) (xs : List X) where
  -- The place of a key in a list, where `order x` says how the key stands to x: the last x that the key isn't below,
  -- or the first x of all.
  pub record IsPlace (i : ℕ) : Type 0 where
    pub within : i < length xs
    pub low : (d : X) → 0 < i → order (slice_index_or xs i d) ≢ Less
    pub high : (d : X) → i + 1 < length xs → order (slice_index_or xs (i + 1) d) ≡ Less

  -- a search for that place, which has narrowed it to the places from low on and before high
  pub record IsBetween (low high : ℕ) : Type 0 where
    pub apart : low < high
    pub within : high ≤ length xs
    pub not_below : (d : X) → 0 < low → order (slice_index_or xs low d) ≢ Less
    pub below : (d : X) → high < length xs → order (slice_index_or xs high d) ≡ Less
