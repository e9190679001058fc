-- Books by name and by place.
use Rattle.std.proofs.Common.{◌≡◌, ℕ, ◌<◌, List, [], ◌∷◌, length, drop, cond, true, Some, sym, ◌∙◌, ap, slice_index_or}
use Rattle.std.proofs.Math.Seq.{drop-cons}
use Rattle.std.proofs.lemmas.Option.{slice_get-get_or}
use Rattle.std.specs.List.{find}
use Rattle.std.specs.Str.{bytes_eq}
use Rattle.std.specs.Option.{option_map, unwrap_or}
use Rattle.pan_io.specs.Books.{NamedBytes, book_named, bytes_at}

named_first : (name : List ℕ) (book : NamedBytes) (more : List NamedBytes) → bytes_eq book.name name ≡ true
    → book_named name (book ∷ more) ≡ Some book.bytes
named_first name book more same =
    ap (λ b. option_map {T = NamedBytes} {U = List ℕ} (λ x. x.bytes) (cond b (Some book) (find (λ x. bytes_eq x.name name) more))) same

-- the book at this place has the name
pub named_here : (name : List ℕ) (books : List NamedBytes) (place : ℕ) (d : NamedBytes) → place < length books
    → bytes_eq (slice_index_or books place d).name name ≡ true
    → Some (bytes_at (Some place) books) ≡ book_named name (drop place books)
named_here name books place d within same =
    ap (λ o. Some (unwrap_or (option_map {T = NamedBytes} {U = List ℕ} (λ x. x.bytes) o) [])) (slice_get-get_or books place d within)
    ∙ sym (ap (book_named name) (drop-cons books place d within) ∙ named_first name (slice_index_or books place d) _ same)
