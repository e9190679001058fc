use Rattle.std.proofs.Common.{◌≡◌, ap, sym, ◌∙◌, length, take, drop}
use Rattle.pan_io.specs.Books.{bytes_at}
use Rattle.pan_io.proofs.Pieces.{gives_piece, gives_none}
use Rattle.pan_io.proofs.memory_shelf.MemoryShelfShelf.take.Goals as goal

pub returns-clause-bytes : goal.returns-clause-bytes
returns-clause-bytes c =
    let shelf = c.args.self.now in
    let gave = c.give-count.ensures in
    let count = c.give-count.result in
    let bytes = bytes_at shelf.place shelf.books.items in
    let rest : c.rest_of.result.now ≡ drop shelf.at bytes = c.rest_of.ensures.rest ∙ ap (λ books. drop shelf.at (bytes_at shelf.place books)) c.deref-2.ensures.value in (
      gives_piece bytes c.give-count.new.into shelf.at count (gave.copied ∙ ap (take count) rest),
      λ none room. gives_none bytes shelf.at count (ap length (sym rest) ∙ gave.none none room),
    )
