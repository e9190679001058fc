use Rattle.std.proofs.Common.{◌≡◌, Ok, Err, ap, inl, arith, rules}
use Rattle.pan_io.specs.declared.whole.Unread.TheVariants.{Failed}
use Rattle.pan_io.proofs.WholeBooks.{at_start, at_end, rose_before}
use Rattle.pan_io.proofs.whole.read_book.Goals as goal

pub parts-init : goal.parts-init
parts-init g c = record {
  chunk = c.in_ok-chunk.ensures.len;
  short = omega (arith, c.new-bytes.ensures.len);
  opened = c.in-Ok.ensures.opened;
  part = rw c.new-bytes.ensures.items (at_start _ _ _ c.in-Ok.ensures.left);
  books = c.in-Ok.ensures.books;
  later = c.in-Ok.ensures.later;
}

pub returns-in_err-take_part-clause-cause : goal.returns-in_err-take_part-clause-cause
returns-in_err-take_part-clause-cause g c e =
    let result : c.from_residual-in_err-take_part.result ≡ Err c.in_err-take_part.field-0.0 = search rules in
    let failed : c.in_err-take_part.field-0.0 ≡ Failed = cc (result, e) in
    inl (rose_before _ _ _ c.parts.invariant.later (c.in_err-take_part.ensures.cause (ap Err failed)))

pub returns-then-not-branch-clause-book : goal.returns-then-not-branch-clause-book
returns-then-not-branch-clause-book g c =
    (at_end _ _ _ _ (c.in_ok-take_part.ensures.part _ _ c.parts.invariant.part) (c.in_ok-take_part.ensures.whole (ap Ok c.if-not-branch.true)), c.in_ok-take_part.ensures.short)
