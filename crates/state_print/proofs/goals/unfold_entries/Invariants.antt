use Rattle.state_print.proofs.Turns.{Entered}
use Rattle.state_print.proofs.goals.unfold_entries.Given as goal

abbrev pub invariant-loop-entry : goal.invariant-loop-entry
invariant-loop-entry g l = Entered (g.T.Terms.holds l.fn.terms) (g.T.Terms.means l.fn.terms) (g.T.Terms.holds l.terms) (g.T.Terms.means l.terms) l.metas l.ctx l.entries.items l.entry-index
