use Rattle.pattern_unify.proofs.KeptContexts.{KeptSoFar}
use Rattle.pattern_unify.proofs.entries.kept_context.Given as goal

abbrev pub invariant-loop-k : goal.invariant-loop-k
invariant-loop-k g l =
    KeptSoFar (g.T.Terms.holds l.fn.terms) (g.T.Terms.means l.fn.terms) (g.T.Terms.holds l.terms) (g.T.Terms.means l.terms) l.env l.metas l.flags l.ctx l.kept l.k l.fn.fuel l.fuel
