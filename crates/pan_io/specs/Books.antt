-- The books that a shelf tells: a finite map from names to bytes.
use Rattle.std.specs.Prelude.{◌≡◌, ℕ, ◌⊎◌, List, Option, None, Some, is_some, true, [], slice_get, unwrap_or}
use Rattle.std.specs.List.{find}
use Rattle.std.specs.Str.{bytes_eq}
use Rattle.std.specs.Option.{option_map}
use Rattle.pan_io.specs.Faults.{Rose}

-- a book: its name and its bytes
pub record NamedBytes : Type 0 where
  pub name : List ℕ
  pub bytes : List ℕ

-- the bytes of the book with this name, the first one where several have it
abbrev pub book_named : List ℕ → List NamedBytes → Option (List ℕ)
book_named name books = option_map (λ book. book.bytes) (find (λ book. bytes_eq book.name name) books)

-- the books are told, and the name is not among them
abbrev pub IsMissing : Option (List NamedBytes) → List ℕ → Type 0
IsMissing None name = ⊥
IsMissing (Some books) name = book_named name books ≡ None

-- a shelf's count in a call of `open`: it also counts as risen where the shelf tells its books
-- and the name given is not among them
abbrev pub RoseAtOpen : Option (List NamedBytes) → List ℕ → ℕ → ℕ → Type 0
RoseAtOpen books name before now = Rose before now ⊎ IsMissing books name

-- the bytes that an open book has left at its start
abbrev pub LeftAtStart : Option (List NamedBytes) → List ℕ → Option (List ℕ) → Type 0
LeftAtStart None name left = left ≡ None
LeftAtStart (Some books) name left = (left ≡ book_named name books) × (is_some left ≡ true)

-- the bytes of the book at an index, and none where it has no book
abbrev pub bytes_at : Option ℕ → List NamedBytes → List ℕ
bytes_at None books = []
bytes_at (Some place) books = unwrap_or (option_map (λ book. book.bytes) (slice_get books place)) []
