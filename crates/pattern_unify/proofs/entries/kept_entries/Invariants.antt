use Rattle.pattern_unify.proofs.KeptEntries.{AreFlagged}
use Rattle.pattern_unify.proofs.entries.kept_entries.Given as goal

abbrev pub invariant-loop-k : goal.invariant-loop-k
invariant-loop-k g l = AreFlagged (g.T.Terms.means l.terms) l.marks l.ctx l.flags.items l.k
