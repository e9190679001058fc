use Rattle.conversion.proofs.Reducing.{Reducing}
use Rattle.conversion.proofs.weak_head.whnf.Given as goal

abbrev pub invariant-loop-waiting : goal.invariant-loop-waiting
invariant-loop-waiting g l =
    Reducing (g.T.Terms.holds l.fn.terms) (g.T.Terms.means l.fn.terms) (g.T.Terms.holds l.terms) (g.T.Terms.means l.terms)
    (g.G.Globals.items l.globals) (g.G.Globals.metas l.globals) l.h l.head l.waiting.items l.fn.fuel l.fuel l.stands

abbrev pub decreases-loop-waiting : goal.decreases-loop-waiting
decreases-loop-waiting g l = l.fuel
