use Rattle.std.proofs.Common.{◌≡◌, All, drop}
use Rattle.ld_terms.specs.Views.{Keeps}
use Rattle.conversion.specs.Globals.{IsItemOf}
use Rattle.meta_context.specs.Plain.{plain_items}
use Rattle.book_reader.specs.Book.{enter}
use Rattle.book_reader.proofs.book.enter_items.Given as goal

abbrev pub invariant-loop-source : goal.invariant-loop-source
invariant-loop-source g l = record {
  counted : l.number ≡ l.source-index;
  kept : Keeps (g.T.Terms.holds l.fn.terms) (g.T.Terms.means l.fn.terms) (g.T.Terms.holds l.terms) (g.T.Terms.means l.terms);
  held : All (IsItemOf (g.T.Terms.holds l.terms)) l.made;
  value : enter l.units 0 (plain_items (g.T.Terms.means l.fn.terms) l.env) l.sources ≡ enter l.units l.number (plain_items (g.T.Terms.means l.terms) l.made) (drop l.source-index l.sources);
}
