use Rattle.std.proofs.Common.{◌≡◌, ◌≤◌, ◌-◌, length, drop}
use Rattle.pan_io.specs.Books.{book_named}
use Rattle.pan_io.proofs.memory_shelf.place_of.Given as goal

abbrev pub invariant-books : goal.invariant-books
invariant-books l = record {
  within : l.place ≤ length l.books;
  later : book_named l.name (drop l.place l.books) ≡ book_named l.name l.books;
}

abbrev pub decreases-books : goal.decreases-books
decreases-books l = length l.books - l.place
