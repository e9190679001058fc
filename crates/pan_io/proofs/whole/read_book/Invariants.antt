use Rattle.std.proofs.Common.{◌≡◌, ◌≤◌, ◌-◌, true, vec_len}
use Rattle.pan_io.specs.Whole.{IsPartOf}
use Rattle.pan_io.proofs.whole.read_book.Given as goal

abbrev pub invariant-parts : goal.invariant-parts
invariant-parts g l = record {
  chunk : vec_len l.chunk ≡ 8192;
  short : vec_len l.bytes ≤ l.most;
  opened : g.H.Shelf.is_open l.shelf ≡ true;
  part : IsPartOf (g.H.Shelf.books l.fn.shelf) l.fn.name l.bytes.items (g.H.Shelf.left l.shelf);
  books : g.H.Shelf.books l.shelf ≡ g.H.Shelf.books l.fn.shelf;
  later : g.H.Shelf.faults l.fn.shelf ≤ g.H.Shelf.faults l.shelf;
}

abbrev pub decreases-parts : goal.decreases-parts
decreases-parts g l = l.most - vec_len l.bytes
