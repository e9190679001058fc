use Rattle.std.proofs.Common.{◌≡◌, Some, None, sym, ap, ◌∙◌, arith}
use Rattle.ld_trees.specs.Term.{nodes}
use Rattle.pattern_unify.specs.Walks.{bad_variable, or_next}
use Rattle.pattern_unify.proofs.BadVariables.{bad_now, bad_later, bad_further}
use Rattle.pattern_unify.proofs.spots.+walking.Goals as goal

pub bad_in_all-returns-in-Some : goal.bad_in_all-returns-in-Some
bad_in_all-returns-in-Some g t c =
    let means = g.T.Terms.means c.args.terms.now in
    let good = g.A.Allows.good c.args.allowed.now in
    let found : Some c.in-Some.i ≡ bad_variable good c.args.under (means c.u-item.result) = sym c.in-Some.is ∙ c.in_ok-i.ensures in
    bad_now good c.args.under means c.args.us.now c.loop-u.u-index c.u-item.result (omega arith) c.u-item.is c.loop-u.invariant c.in-Some.i found

pub bad_in_all-loop-u-preserved : goal.bad_in_all-loop-u-preserved
bad_in_all-loop-u-preserved g t c =
    let means = g.T.Terms.means c.args.terms.now in
    let good = g.A.Allows.good c.args.allowed.now in
    let none : None ≡ bad_variable good c.args.under (means c.u-item.result) = sym c.in_default.is ∙ c.in_ok-i.ensures in
    bad_later good c.args.under means c.args.us.now c.loop-u.u-index c.u-item.result (omega arith) c.u-item.is c.loop-u.invariant none

pub bad_in_application-loop-g-preserved : goal.bad_in_application-loop-g-preserved
bad_in_application-loop-g-preserved g t c =
    let means = g.T.Terms.means c.args.terms.now in
    let good = g.A.Allows.good c.args.allowed.now in
    let size = ap nodes c.in-App.ensures.tree in (
      c.in-App.ensures.held.0,
      omega (arith, size, c.loop-g.invariant.1),
      bad_further good c.args.under (means c.loop-g.head) c.loop-g.found c.in_ok-bad_variable.field-0 c.or-found.result (or_next (bad_variable good c.args.under (means c.args.f)) (bad_variable good c.args.under (means c.args.a)))
          c.or-found.ensures c.loop-g.invariant.2 (means c.in-App.g) (means c.in-App.b) c.in-App.ensures.tree c.in_ok-bad_variable.ensures,
    )
