use Rattle.std.specs.Prelude.{sum_by}
use Rattle.meta_context.specs.Stored.{metas_of}
use Rattle.coupling.specs.Looks.{TakesNone}
use Rattle.coupling.proofs.Marking.{left_of}
use Rattle.coupling.proofs.Reaching.{IsReaching}
use Rattle.coupling.proofs.reach.reach.Given as goal

abbrev pub invariant-loop-m : goal.invariant-loop-m
invariant-loop-m g l = record {
  reaching : IsReaching (g.T.Terms.means l.terms) (metas_of (g.T.Terms.means l.terms) l.metas) l.g l.seen l.marks;
  free : TakesNone l.fn.seen → TakesNone l.seen;
}

abbrev pub decreases-loop-m : goal.decreases-loop-m
decreases-loop-m g l = sum_by left_of l.marks
