-- Lists that are cut into parts of one length.
use Rattle.std.specs.Prelude.{◌≡◌, ℕ, ◌<◌, ◌≤◌, ◌+◌, List, [], length, slice_index_or}
use Rattle.std.specs.List.{flat_map}

-- a clone equals its source
abbrev pub IsExact : {X : Type 0} → (X → X → Type 0) → Type 0
IsExact {X} is_clone = (x y : X) → is_clone x y → y ≡ x

-- the items of some parts, one part after another
abbrev pub joined : {A : Type 0} → List (List A) → List A
joined ps = flat_map (λ p. p) ps

-- each part but the last has `width` items, and the last has from 1 to `width`
pub record IsFilled {A : Type 0} (width : ℕ) (parts : List (List A)) : Type 0 where
  pub full : (i : ℕ) → i + 1 < length parts → length (slice_index_or parts i []) ≡ width
  pub some : (i : ℕ) → i < length parts → 0 < length (slice_index_or parts i [])
  pub few : (i : ℕ) → i < length parts → length (slice_index_or parts i []) ≤ width
