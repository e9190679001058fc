use Rattle.term_store.proofs.tests.doubled.Given as goal

abbrev pub invariant-loop : goal.invariant-loop
invariant-loop g l = g.T.Terms.holds l.terms l.whole
