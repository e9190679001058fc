use Rattle.std.proofs.Common.{◌≡◌, []}
use Rattle.meta_trees.specs.Dependencies.{below}
use Rattle.goal_state.specs.State.{plain_metas}
use Rattle.coupling.specs.Coupling.{is_coupled}
use Rattle.coupling.proofs.goals.stands_alone.Given as goal

abbrev pub invariant-loop-h : goal.invariant-loop-h
invariant-loop-h g l = below (is_coupled (plain_metas (g.T.Terms.means l.terms) l.metas) l.g) l.h ≡ []
