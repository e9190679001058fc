use Rattle.std.proofs.Common.{take}
use Rattle.conversion.specs.Globals.{context_of}
use Rattle.meta_trees.specs.Dependencies.{occurs_in}
use Rattle.coupling.specs.Looks.{TakesNone}
use Rattle.coupling.specs.Marks.{HasMarked, AreKnown}
use Rattle.coupling.proofs.marks.mark_types.Given as goal

abbrev pub invariant-loop-entry : goal.invariant-loop-entry
invariant-loop-entry g l = record {
  marked : HasMarked (λ k. occurs_in k (context_of (g.T.Terms.means l.terms) (take l.entry-index l.entries))) l.fn.marks l.marks;
  known : AreKnown (g.T.Terms.means l.terms) l.seen l.marks;
  free : TakesNone l.fn.seen → TakesNone l.seen;
}
