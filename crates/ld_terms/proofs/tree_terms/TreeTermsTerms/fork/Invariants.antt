use Rattle.std.proofs.Common.{◌≡◌, take}
use Rattle.ld_terms.proofs.tree_terms.TreeTermsTerms.fork.Given as goal

abbrev pub invariant-loop-entry : goal.invariant-loop-entry
invariant-loop-entry l = l.made.items ≡ take l.entry-index l.entry-items
