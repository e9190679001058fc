use Rattle.std.proofs.Common.{◌≡◌, ◌<◌, ℕ, get_or, false, nat_lt}
use Rattle.ld_trees.specs.Term.{depth}
use Rattle.ld_terms.specs.declared.globals.Local.{Local}
use Rattle.meta_context.specs.Limits.{most_depth}
use Rattle.meta_context.proofs.declaring.has_deep_type.Given as goal

abbrev pub invariant-loop-entry : goal.invariant-loop-entry
invariant-loop-entry g l = (k : ℕ) (e : Local _) → k < l.entry-index → nat_lt most_depth (depth (g.T.Terms.means l.terms (get_or l.ctx k e).ty)) ≡ false
