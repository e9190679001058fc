use Rattle.std.proofs.Common.{◌≡◌, map, drop}
use Rattle.ld_trees.specs.Term.{none}
use Rattle.term_syntax.specs.Scoping.{applied, arguments, below, scope}
use Rattle.term_text.specs.Scoped.{arities, bound_of}
use Rattle.term_text.proofs.ScopeLaws.{Spine, Each}
use Rattle.term_text.proofs.scope.+scope.Given as goal

abbrev pub invariant-scope_spine-loop-u : goal.invariant-scope_spine-loop-u
invariant-scope_spine-loop-u g l =
    Spine (g.T.Terms.holds l.fn.terms) (g.T.Terms.means l.fn.terms) (g.T.Terms.holds l.terms) (g.T.Terms.means l.terms)
    (applied (g.T.Terms.means l.fn.terms l.fn.head) (below (bound_of l.fn.bound.items) (map (scope (arities (g.G.Globals.items l.globals)) l.names) l.us)))
    (map (λ u. scope (arities (g.G.Globals.items l.globals)) l.names u (bound_of l.fn.bound.items)) (drop l.u-index l.us)) l.h
    × (l.bound.items ≡ l.fn.bound.items)

abbrev pub invariant-scope_each-loop-u : goal.invariant-scope_each-loop-u
invariant-scope_each-loop-u g l =
    Each (g.T.Terms.holds l.fn.terms) (g.T.Terms.means l.fn.terms) (g.T.Terms.holds l.terms) (g.T.Terms.means l.terms)
    (arguments none (below (bound_of l.fn.bound.items) (map (scope (arities (g.G.Globals.items l.globals)) l.names) l.us)))
    (map (λ u. scope (arities (g.G.Globals.items l.globals)) l.names u (bound_of l.fn.bound.items)) (drop l.u-index l.us)) l.out.items
    × (l.bound.items ≡ l.fn.bound.items)
