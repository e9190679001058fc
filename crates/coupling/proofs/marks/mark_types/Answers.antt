use Rattle.std.proofs.Common.{arith}
use Rattle.ld_terms.specs.declared.globals.Local.{Local}
use Rattle.coupling.proofs.Marking.{next_marked}
use Rattle.coupling.proofs.marks.mark_types.Goals as goal

pub loop-entry-preserved : goal.loop-entry-preserved
loop-entry-preserved g c = record {
  marked = next_marked (λ (l : Local _). g.T.Terms.means c.args.terms.now l.ty) c.args.entries.now c.loop-entry.entry-index c.entry-item.result _ _ _ (omega arith) c.entry-item.is c.loop-entry.invariant.marked c.in_ok-mark.ensures.marked.marked;
  known = c.in_ok-mark.ensures.marked.known;
  free = λ f. c.in_ok-mark.ensures.free (c.loop-entry.invariant.free f);
}
