use Rattle.std.proofs.Common.{◌≡◌, ◌+◌, ◌*◌, max}
use denote.Param.Weighed.{most}
use Rattle.term_syntax.proofs.surface.Surface.TheLaws.{the_size}
use Rattle.elaborate.proofs.Turns.{AreArguments, IsApplied}
use Rattle.elaborate.proofs.walk.+walk.Given as goal

abbrev pub decreases-elaborate : goal.decreases-elaborate
decreases-elaborate g l = 3 * the_size l.t.now

abbrev pub decreases-constant : goal.decreases-constant
decreases-constant g l = 3 * most (λ u. the_size u) l.us.now + 2

abbrev pub decreases-abstraction : goal.decreases-abstraction
decreases-abstraction g l = 3 * max (the_size l.a.now) (the_size l.m.now) + 2

abbrev pub decreases-dependent_product : goal.decreases-dependent_product
decreases-dependent_product g l = 3 * max (the_size l.a.now) (the_size l.b.now) + 2

abbrev pub decreases-under : goal.decreases-under
decreases-under g l = 3 * the_size l.t.now + 1

abbrev pub decreases-arguments : goal.decreases-arguments
decreases-arguments g l = 3 * most (λ u. the_size u) l.us.now + 1

abbrev pub decreases-applied : goal.decreases-applied
decreases-applied g l = 3 * most (λ u. the_size u) l.us.now + 2

abbrev pub decreases-applied_to : goal.decreases-applied_to
decreases-applied_to g l = 3 * the_size l.u.now + 1

abbrev pub invariant-arguments-loop-u : goal.invariant-arguments-loop-u
invariant-arguments-loop-u g l =
    AreArguments (g.T.Terms.holds l.fn.terms) (g.T.Terms.means l.fn.terms) (g.T.Terms.holds l.terms) (g.T.Terms.means l.terms) l.env l.here l.us l.params l.fn.work l.work l.made.items l.u-index l.fn.fuel l.fuel
    × (l.place ≡ l.u-index)

abbrev pub invariant-applied-loop-u : goal.invariant-applied-loop-u
invariant-applied-loop-u g l =
    IsApplied (g.T.Terms.holds l.fn.terms) (g.T.Terms.means l.fn.terms) (g.T.Terms.holds l.terms) (g.T.Terms.means l.terms) l.env l.here l.us l.fn.function l.typed l.u-index l.fn.fuel l.fuel
