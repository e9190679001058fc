-- A whole book of a shelf.
use Rattle.std.specs.Prelude.{◌≡◌, ℕ, ◌<◌, List, ◌++◌, length, Option, Some, None}
use Rattle.pan_io.specs.Books.{NamedBytes, book_named}

-- where the shelf tells its books, the one of this name has these bytes
abbrev pub IsBook : Option (List NamedBytes) → List ℕ → List ℕ → Type 0
IsBook None name bytes = Unit {0}
IsBook (Some books) name bytes = book_named name books ≡ Some bytes

-- where the shelf tells its books, the one of this name has more bytes than this
abbrev pub IsLongBook : Option (List NamedBytes) → List ℕ → ℕ → Type 0
IsLongBook None name most = Unit {0}
IsLongBook (Some books) name most = (bytes : List ℕ) × (book_named name books ≡ Some bytes) × (most < length bytes)

-- these bytes of the book were read, and the rest of it is left
abbrev pub IsPartOf : Option (List NamedBytes) → List ℕ → List ℕ → Option (List ℕ) → Type 0
IsPartOf None name bytes left = left ≡ None
IsPartOf (Some books) name bytes left = (rest : List ℕ) × (left ≡ Some rest) × (book_named name books ≡ Some (bytes ++ rest))

-- where the bytes so far were a part of an open book, the bytes now are one
abbrev pub GoesOn : Option (List ℕ) → Option (List ℕ) → List ℕ → List ℕ → Type 0
GoesOn left left' bytes bytes' = (books : Option (List NamedBytes)) (name : List ℕ) → IsPartOf books name bytes left → IsPartOf books name bytes' left'

-- where the bytes so far were a part of an open book, the whole has more bytes than this
abbrev pub IsTooLong : Option (List ℕ) → List ℕ → ℕ → Type 0
IsTooLong left bytes most = (books : Option (List NamedBytes)) (name : List ℕ) → IsPartOf books name bytes left → IsLongBook books name most
