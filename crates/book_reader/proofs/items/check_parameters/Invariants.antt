use Rattle.std.proofs.Common.{◌≡◌, List, [], drop}
use Rattle.ld_trees.specs.Term.{Term}
use Rattle.ld_terms.specs.Views.{Keeps}
use Rattle.ld_terms.specs.declared.globals.Item.{Item}
use Rattle.conversion.specs.Globals.{AreLocals}
use Rattle.meta_context.specs.Plain.{plain_items, plain_locals}
use Rattle.book_reader.specs.Items.{parameters}
use Rattle.book_reader.proofs.items.check_parameters.Given as goal

abbrev pub invariant-loop-source : goal.invariant-loop-source
invariant-loop-source g l = record {
  kept : Keeps (g.T.Terms.holds l.fn.terms) (g.T.Terms.means l.fn.terms) (g.T.Terms.holds l.terms) (g.T.Terms.means l.terms);
  held : AreLocals (g.T.Terms.holds l.terms) l.params;
  value : (Δ : List (Item Term)) → plain_items (g.T.Terms.means l.fn.terms) l.env ≡ Δ
      → parameters Δ [] l.sources l.fn.fuel ≡ parameters Δ (plain_locals (g.T.Terms.means l.terms) l.params) (drop l.source-index l.sources) l.fuel;
}
