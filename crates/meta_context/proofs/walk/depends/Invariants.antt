use Rattle.std.proofs.Common.{◌+◌}
use Rattle.std.specs.Prelude.{sum_by}
use Rattle.meta_context.proofs.Handles.{weight}
use Rattle.meta_context.proofs.Walking.{unmet}
use Rattle.meta_context.proofs.Turns.{IsWalking}
use Rattle.meta_context.proofs.walk.depends.Given as goal

abbrev pub invariant-loop-x : goal.invariant-loop-x
invariant-loop-x g l = IsWalking (g.T.Terms.holds l.terms) (g.T.Terms.means l.terms) l.metas l.m l.fn.h l.walk.left.items l.walk.entered.keys l.walk.met.items

abbrev pub decreases-loop-x : goal.decreases-loop-x
decreases-loop-x g l = sum_by (weight (g.T.Terms.means l.terms)) l.walk.left.items + unmet (weight (g.T.Terms.means l.terms)) l.walk.met.items l.metas
