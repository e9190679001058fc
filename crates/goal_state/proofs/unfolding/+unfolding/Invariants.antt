use Rattle.std.proofs.Common.{map, ◌+◌, ◌*◌}
use Rattle.ld_trees.specs.Term.{Numbered}
use Rattle.ld_terms.specs.Views.{terms_of}
use Rattle.meta_context.specs.Stored.{metas_of}
use Rattle.goal_state.proofs.Work.{head_work, rounds_work, rounds_work_all}
use Rattle.goal_state.proofs.Settling.{Turn}
use Rattle.goal_state.proofs.unfolding.+unfolding.Given as goal

abbrev pub decreases-unfold : goal.decreases-unfold
decreases-unfold g l = 8 * rounds_work (metas_of (g.T.Terms.means l.terms.now) l.metas.now) l.rounds (g.T.Terms.means l.terms.now l.h) + 2

abbrev pub decreases-unfold_once : goal.decreases-unfold_once
decreases-unfold_once g l = 8 * rounds_work (metas_of (g.T.Terms.means l.terms.now) l.metas.now) l.rounds (g.T.Terms.means l.terms.now l.h) + 1

abbrev pub decreases-unfold_node : goal.decreases-unfold_node
decreases-unfold_node g l = 8 * rounds_work (metas_of (g.T.Terms.means l.terms.now) l.metas.now) l.rounds (g.T.Terms.means l.terms.now l.h)

abbrev pub decreases-unfold_two : goal.decreases-unfold_two
decreases-unfold_two g l =
    let Σ = metas_of (g.T.Terms.means l.terms.now) l.metas.now in
    8 * (rounds_work Σ l.rounds (g.T.Terms.means l.terms.now l.a) + rounds_work Σ l.rounds (g.T.Terms.means l.terms.now l.b)) + 3

abbrev pub decreases-unfold_each : goal.decreases-unfold_each
decreases-unfold_each g l = 8 * rounds_work_all (metas_of (g.T.Terms.means l.terms.now) l.metas.now) l.rounds (terms_of (map (g.T.Terms.means l.terms.now) l.us.now)) + 3

abbrev pub decreases-unfold_constant : goal.decreases-unfold_constant
decreases-unfold_constant g l = 8 * rounds_work_all (metas_of (g.T.Terms.means l.terms.now) l.metas.now) l.rounds (terms_of (map (g.T.Terms.means l.terms.now) l.us.now)) + 4

abbrev pub decreases-unfold_meta : goal.decreases-unfold_meta
decreases-unfold_meta g l =
    let Σ = metas_of (g.T.Terms.means l.terms.now) l.metas.now in
    8 * (head_work Σ l.rounds (Numbered l.m) + rounds_work_all Σ l.rounds (terms_of (map (g.T.Terms.means l.terms.now) l.us.now))) + 4

abbrev pub decreases-unfold_value : goal.decreases-unfold_value
decreases-unfold_value g l = 8 * head_work (metas_of (g.T.Terms.means l.terms.now) l.metas.now) l.rounds (Numbered l.m)

abbrev pub invariant-unfold_each-loop-u : goal.invariant-unfold_each-loop-u
invariant-unfold_each-loop-u g l =
    Turn (g.T.Terms.holds l.fn.terms) (g.T.Terms.means l.fn.terms) (g.T.Terms.holds l.terms) (g.T.Terms.means l.terms)
    l.metas g.T.Handle.Ord.cmp l.known l.rounds l.us l.made.items l.settled l.u-index
