use Rattle.std.proofs.Common.{◌≡◌, ◌-◌, ◌≤◌, All, map}
use Rattle.ld_terms.specs.Views.{Keeps, terms_of}
use Rattle.unification.specs.Patterns.{variables_from}
use Rattle.move_set.proofs.applying.variables.Given as goal

abbrev pub invariant-loop-left : goal.invariant-loop-left
invariant-loop-left g l = record {
  within : l.left ≤ l.count;
  kept : Keeps (g.T.Terms.holds l.fn.terms) (g.T.Terms.means l.fn.terms) (g.T.Terms.holds l.terms) (g.T.Terms.means l.terms);
  held : All (g.T.Terms.holds l.terms) l.made.items;
  value : terms_of (map (g.T.Terms.means l.terms) l.made.items) ≡ variables_from l.left (l.count - l.left);
}

abbrev pub decreases-loop-left : goal.decreases-loop-left
decreases-loop-left g l = l.left
