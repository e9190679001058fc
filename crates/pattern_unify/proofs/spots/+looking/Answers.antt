use Rattle.std.proofs.Common.{sym, ap, ◌∙◌, arith}
use Rattle.goal_state.specs.State.{plain_metas}
use Rattle.ld_trees.specs.Term.{nodes}
use Rattle.unification.specs.Pruning.{or_spot}
use Rattle.pattern_unify.specs.Walks.{plain_spot, free_spot}
use Rattle.pattern_unify.proofs.BadVariables.{somewhere, spot_now, spot_later, spot_further}
use Rattle.pattern_unify.proofs.spots.+looking.Goals as goal

pub spot_in_all-returns-in_default : goal.spot_in_all-returns-in_default
spot_in_all-returns-in_default g t c =
    let means = g.T.Terms.means c.args.terms.now in
    let good = g.A.Allows.good c.args.allowed.now in
    spot_now (plain_metas means c.args.metas.now) good c.args.under means c.args.us.now c.loop-u.u-index c.u-item.result (omega arith) c.u-item.is c.loop-u.invariant
    (plain_spot c.in_ok-found.found) (somewhere c.in_ok-found.found c.in_default.not-Nowhere) c.in_ok-found.ensures

pub spot_in_all-loop-u-preserved : goal.spot_in_all-loop-u-preserved
spot_in_all-loop-u-preserved g t c =
    let means = g.T.Terms.means c.args.terms.now in
    let good = g.A.Allows.good c.args.allowed.now in
    spot_later (plain_metas means c.args.metas.now) good c.args.under means c.args.us.now c.loop-u.u-index c.u-item.result (omega arith) c.u-item.is c.loop-u.invariant
    (sym (ap plain_spot c.in-Nowhere.is) ∙ c.in_ok-found.ensures)

pub spot_in_application-loop-g-preserved : goal.spot_in_application-loop-g-preserved
spot_in_application-loop-g-preserved g t c =
    let means = g.T.Terms.means c.args.terms.now in
    let metas = plain_metas means c.args.metas.now in
    let good = g.A.Allows.good c.args.allowed.now in
    let size = ap nodes c.in-App.ensures.tree in (
      c.in-App.ensures.held.0,
      omega (arith, size, c.loop-g.invariant.1),
      spot_further metas good c.args.under (means c.loop-g.head) (plain_spot c.loop-g.found) (plain_spot c.in_ok-spot_of.field-0) (plain_spot c.first_spot-found.result)
          (or_spot (free_spot metas good c.args.under (means c.args.f)) (free_spot metas good c.args.under (means c.args.a)))
          c.first_spot-found.ensures c.loop-g.invariant.2 (means c.in-App.g) (means c.in-App.b) c.in-App.ensures.tree c.in_ok-spot_of.ensures,
    )
