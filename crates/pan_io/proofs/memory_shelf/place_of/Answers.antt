use Rattle.std.proofs.Common.{◌≡◌, ap, sym, ◌∙◌, true}
use Rattle.std.specs.Str.{bytes_eq}
use Rattle.pan_io.specs.Books.{NamedBytes}
use Rattle.pan_io.proofs.BookLemmas.{named_here}
use Rattle.pan_io.proofs.memory_shelf.place_of.Goals as goal

pub returns-then-eq-clause-found : goal.returns-then-eq-clause-found
returns-then-eq-clause-found c =
    let name = c.args.name.now in
    let book = c.index-books-place.result in
    let read : c.as_str.result.now ≡ book.name = c.as_str.ensures.value ∙ ap (λ (b : NamedBytes). b.name) c.book.view_is in
    let same : bytes_eq book.name name ≡ true = ap (λ n. bytes_eq n name) (sym read) ∙ sym c.eq.ensures ∙ c.if-eq.true in
    named_here name c.args.books.now c.books.place book c.books-test.true
    (ap (λ (b : NamedBytes). bytes_eq b.name name) (sym c.index-books-place.is) ∙ same)
    ∙ c.books.invariant.later
